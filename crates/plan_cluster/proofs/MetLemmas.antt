-- What the code makes of two layers that meet is what a look makes of them.
use Rattle.std.proofs.Common.{◌≡◌, ◌∙◌, Bool, true, false, All, List, [], ◌∷◌, ◌++◌, refl, sym, ap, ap₂, subst, append-nil}
use Rattle.std.specs.Prelude.{Result, Ok, Err}
use Rattle.std.specs.Result.{IfOk, OnOk}
use Rattle.std.specs.declared.alloc.AllocError.{AllocError}
use Rattle.std.specs.List.Sorted.{IsPermutation}
use Rattle.std.proofs.lemmas.List.Elements.{All-cons, All-nil}
use Rattle.plan_core.specs.declared.arena.Node.{Node}
use Rattle.plan_core.specs.Columns.{Columns}
use Rattle.plan_core.specs.Names.{AreDistinct}
use Rattle.plan_expr.specs.declared.aexpr.AExpr.{AExpr}
use Rattle.plan_expr.specs.declared.expr_ir.ExprIR.{ExprIR}
use Rattle.plan_frame.proofs.NameSets.{distinct_none}
use Rattle.plan_meaning.specs.Checks.{is_empty}
use Rattle.plan_collapse_laws.specs.Additions.{Addition}
use Rattle.plan_collapse_laws.specs.Meeting.{left_above}
use Rattle.plan_collapse_laws.specs.Runs.{Link, adds, looked_at, projected_if, projects}
use Rattle.plan_cluster.specs.ExprNames.{expr_names}
use Rattle.plan_cluster.specs.Layers.{IsOnce, addition_at, expr_nodes, layer_roots, link_at}
use Rattle.plan_cluster.specs.Meetings.{IsLeft, IsMet, exprs_sunk, merged_into, sunk_to}
use Rattle.plan_cluster.specs.Parts.{AreParts}
use Rattle.plan_cluster.specs.declared.layer.Addition.{Addition as Taken}
use Rattle.plan_cluster.specs.declared.layer.Layer.{Layer}
use Rattle.plan_cluster.specs.declared.layer.Layer.TheVariants.{Adds, Projects}
use Rattle.plan_cluster.specs.declared.meeting.Meeting.{Meeting}
use Rattle.plan_cluster.specs.declared.meeting.Meeting.TheVariants.{Merged, Moved, Restores, Rests}
use Rattle.plan_cluster.specs.declared.parts.Parts.{Parts}
use Rattle.plan_cluster.proofs.MeetLemmas.{changes-one, changes-some, in_order-read, look-one, look-rests, look-some, merged-read, moves-none, once-stays, once-sunk, order-read, out_of_order-read, stays-none, sunk-read}
use Rattle.plan_cluster.proofs.RootLemmas.{met-roots, same}

empty-nil : {X : Type 0} (xs : List X) → is_empty xs ≡ true → xs ≡ []
empty-nil [] h = refl
empty-nil (x ∷ xs) h = cc

one-once : (l : Layer) → IsOnce l → All IsOnce (l ∷ [])
one-once l h = All-cons IsOnce l [] h (All-nil IsOnce)

two-once : (u l : Layer) → IsOnce u → IsOnce l → All IsOnce (u ∷ l ∷ [])
two-once u l h k = All-cons IsOnce u (l ∷ []) h (one-once l k)

-- where nothing changes
rests-by : (ex : List AExpr) (u l : Layer) → ((ks : List Link) → looked_at (link_at ex u ∷ link_at ex l ∷ ks) ≡ link_at ex u ∷ looked_at (link_at ex l ∷ ks)) → IsOnce u → IsOnce l → IsMet ex u l u l Rests
rests-by ex u l h once once_lower = record {
  looked = h;
  changes = (refl, refl);
  left = [];
  roots = same (sym (append-nil (layer_roots (u ∷ l ∷ []))));
  once = two-once u l once once_lower;
}

-- a projection and what is below it, and what is above it
pub rests-below : (ex : List AExpr) (s : Columns) (l : Layer) → IsOnce l → IsMet ex (Projects s) l (Projects s) l Rests
rests-below ex s l once = rests-by ex (Projects s) l (λ ks. refl) distinct_none once

pub rests-above : (ex : List AExpr) (a : Taken) (s : Columns) → IsOnce (Adds a) → IsMet ex (Adds a) (Projects s) (Adds a) (Projects s) Rests
rests-above ex a s once = rests-by ex (Adds a) (Projects s) (λ ks. refl) once distinct_none

module _ (ex : List AExpr) (u l : Taken) (p : Parts) (are : AreParts ex u.exprs (expr_names l.exprs) p) (once : AreDistinct (expr_names u.exprs)) (once_lower : AreDistinct (expr_names l.exprs)) where
  abbrev U : Addition
  U = addition_at ex u

  abbrev L : Addition
  L = addition_at ex l

  pub met-rests : is_empty p.stays ≡ false → is_empty (p.takes ++ p.moves) ≡ true → IsMet ex (Adds u) (Adds l) (Adds u) (Adds l) Rests
  met-rests h k = rests-by ex (Adds u) (Adds l) (λ ks. look-rests U L ks (stays-none ex u l p are ∙ h) (moves-none ex u l p are ∙ k)) once once_lower

  pub met-merged : is_empty p.stays ≡ true → (u' : Taken) → IsMet ex (Adds u) (Adds l) (Adds u') (Adds (merged_into p u l)) Merged
  met-merged h u' =
      let r = met-roots u.exprs l.exprs p.stays p.takes p.moves once_lower are.all in
      record {
        looked = λ ks. look-one U L ks (stays-none ex u l p are ∙ h) ∙ ap (λ (a : Addition). looked_at (adds a ∷ ks)) (sym (merged-read ex u l p are));
        changes = λ ks. changes-one U L ks (stays-none ex u l p are ∙ h);
        left = r.0;
        roots = subst (λ (s : List ExprIR). IsPermutation (layer_roots (Adds u ∷ Adds l ∷ [])) ((expr_nodes s ++ (expr_nodes (exprs_sunk p l.exprs) ++ [])) ++ r.0)) (empty-nil p.stays h) r.1;
        once = one-once (Adds (merged_into p u l)) (once-sunk ex u l p are once once_lower);
      }

  module _ (h : is_empty p.stays ≡ false) (k : is_empty (p.takes ++ p.moves) ≡ false) where
    changed : (ks : List Link) → looked_at (adds U ∷ adds L ∷ ks) ≡ adds U ∷ adds L ∷ ks → ⊥
    changed ks = changes-some U L ks (stays-none ex u l p are ∙ h) (moves-none ex u l p are ∙ k)

    looked-by : (b : Bool) → p.from_behind ≡ b → (ks : List Link) → looked_at (adds U ∷ adds L ∷ ks) ≡ projected_if b u.schema (adds (left_above U L) ∷ looked_at (adds (addition_at ex (sunk_to p u l)) ∷ ks))
    looked-by b q ks =
        look-some U L ks (stays-none ex u l p are ∙ h) (moves-none ex u l p are ∙ k)
        ∙ ap₂ (λ (c : Bool) (a : Addition). projected_if c u.schema (adds (left_above U L) ∷ looked_at (adds a ∷ ks))) (sym (order-read ex u l p are) ∙ q) (sym (sunk-read ex u l p are))

    stays-once : (u' : Taken) → u'.exprs ≡ p.stays → IsOnce (Adds u')
    stays-once u' e = subst (λ (es : List ExprIR). AreDistinct (expr_names es)) (sym e) (once-stays ex u l p are once once_lower)

    roots-by : (u' : Taken) → u'.exprs ≡ p.stays → (left : List Node) × IsPermutation (layer_roots (Adds u ∷ Adds l ∷ [])) (layer_roots (Adds u' ∷ Adds (sunk_to p u l) ∷ []) ++ left)
    roots-by u' e = subst (λ (s : List ExprIR). (left : List Node) × IsPermutation (layer_roots (Adds u ∷ Adds l ∷ [])) ((expr_nodes s ++ (expr_nodes (exprs_sunk p l.exprs) ++ [])) ++ left)) (sym e) (met-roots u.exprs l.exprs p.stays p.takes p.moves once_lower are.all)

    pub met-moved : (u' : Taken) (m : Meeting) → IsLeft p u l u' m → IsMet ex (Adds u) (Adds l) (Adds u') (Adds (sunk_to p u l)) m
    met-moved u' Moved i =
        let e : u'.exprs ≡ p.stays = ap (λ (a : Taken). a.exprs) i.1 in
        let r = roots-by u' e in
        record {
          looked = λ ks. looked-by false i.0 ks ∙ ap (λ (a : Addition). adds a ∷ looked_at (adds (addition_at ex (sunk_to p u l)) ∷ ks)) (sym (ap (addition_at ex) i.1 ∙ in_order-read ex u l p are i.0));
          changes = changed;
          left = r.0;
          roots = r.1;
          once = two-once (Adds u') (Adds (sunk_to p u l)) (stays-once u' e) (once-sunk ex u l p are once once_lower);
        }
    met-moved u' (Restores s) i =
        let e : u'.exprs ≡ p.stays = ap (λ (a : Taken). a.exprs) i.2 in
        let r = roots-by u' e in
        record {
          looked = λ ks. looked-by true i.0 ks ∙ ap₂ (λ (c : Columns) (a : Addition). projects c ∷ adds a ∷ looked_at (adds (addition_at ex (sunk_to p u l)) ∷ ks)) (sym i.1) (sym (ap (addition_at ex) i.2 ∙ out_of_order-read ex u l p are i.0));
          changes = changed;
          left = r.0;
          roots = r.1;
          once = All-cons IsOnce (Projects s) (Adds u' ∷ Adds (sunk_to p u l) ∷ []) distinct_none (two-once (Adds u') (Adds (sunk_to p u l)) (stays-once u' e) (once-sunk ex u l p are once once_lower));
        }
    met-moved u' Merged i = absurd i
    met-moved u' Rests i = absurd i

    -- the code's answer, if it gives one
    pub moved-met : (u' l' : Taken) (r : Result Meeting AllocError) → OnOk r (l' ≡ sunk_to p u l) → IfOk r (λ m. IsLeft p u l u' m) → IfOk r (λ m. IsMet ex (Adds u) (Adds l) (Adds u') (Adds l') m)
    moved-met u' l' (Ok m) h i = subst (λ (x : Taken). IsMet ex (Adds u) (Adds l) (Adds u') (Adds x) m) (sym h) (met-moved u' m i)
    moved-met u' l' (Err e) h i = tt
