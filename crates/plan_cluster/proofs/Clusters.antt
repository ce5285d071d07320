-- A run of additions over another node, clustered.
use Rattle.std.proofs.Common.{◌≡◌, ◌∙◌, ◌++◌, List, [], ◌∷◌, append-nil, append_assoc, Option, None, refl, sym, ap}
use Rattle.plan_tree.specs.Rose.{Roses, rose, no_roses, more, join}
use Rattle.plan_expr.specs.declared.aexpr.AExpr.{AExpr}
use Rattle.plan_ir.specs.Plans.{Op}
use Rattle.plan_collapse_laws.specs.Additions.{addition_of}
use Rattle.plan_collapse_laws.specs.Runs.{Link, adds, linked, linked_in, rested}
use Rattle.plan_collapse_laws.specs.Clustered.{at_node, clustered, clustered_all, over_node, run_over}
use Rattle.plan_collapse_laws.proofs.Links.{linked_one, rested_some, rested_still}
use Rattle.plan_cluster.specs.declared.layer.Layer.{Layer}
use Rattle.plan_cluster.specs.declared.layer.Layer.TheVariants.{Adds, Projects}
use Rattle.plan_cluster.specs.Layers.{addition_at, links_at}
use Rattle.plan_cluster.specs.Chains.{AreAdds}

module _ (ex : List AExpr) (op : Op) (ts : Roses (Unit {0}) Op) (other : addition_of op ≡ None) where
  abbrev node : Roses (Unit {0}) Op
  node = more (rose tt op ts) no_roses

  abbrev made : Roses (Unit {0}) Op
  made = more (rose tt op (clustered_all ts)) no_roses

  over_run : (ks : List Layer) (run : List Link) → AreAdds ks → run_over (linked_in (links_at ex ks) node) run ≡ linked (rested (run ++ links_at ex ks)) made
  over_run [] run h = ap (λ (o : Option _). over_node run o op (clustered_all ts) (λ r. run_over ts r) no_roses) other ∙ ap (λ (l : List Link). linked (rested l) made) (sym (append-nil run))
  over_run (Adds a ∷ ks) run h = over_run ks (run ++ adds (addition_at ex a) ∷ []) h ∙ ap (λ (l : List Link). linked (rested l) made) (append_assoc run (adds (addition_at ex a) ∷ []) (links_at ex ks))
  over_run (Projects columns ∷ ks) run h = absurd h

  pub clustered_run : (ks : List Layer) → AreAdds ks → clustered_all (linked_in (links_at ex ks) node) ≡ linked_in (rested (links_at ex ks)) made
  clustered_run [] h = ap (λ (o : Option _). more (at_node o op (clustered_all ts) (λ u. run_over ts (adds u ∷ []))) no_roses) other ∙ ap (λ (l : List Link). linked_in l made) (sym (rested_still [] refl))
  clustered_run (Adds a ∷ ks) h =
      ap (λ (p : _). more p no_roses) (over_run ks (adds (addition_at ex a) ∷ []) h)
      ∙ sym (linked_one (rested (adds (addition_at ex a) ∷ links_at ex ks)) made (rested_some (adds (addition_at ex a) ∷ links_at ex ks) refl))
  clustered_run (Projects columns ∷ ks) h = absurd h

-- plans side by side
pub clustered_join : (a b : Roses (Unit {0}) Op) → clustered_all (join a b) ≡ join (clustered_all a) (clustered_all b)
clustered_join no_roses b = refl
clustered_join (more p rest) b = ap (λ (r : Roses (Unit {0}) Op). more (clustered p) r) (clustered_join rest b)
