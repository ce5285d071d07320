-- What the rule loop makes of plans.
use Rattle.std.specs.Prelude.{◌≡◌, ℕ, ◌+◌, ◌≤◌, ◌<◌, Bool, true, false, ◌||◌, List, if◌then◌else◌}
use Rattle.plan_tree.specs.Rose.{Roses, no_roses, more}
use Rattle.plan_ir.specs.Plans.{Op, Plan}
use Rattle.plan_meaning.specs.Relating.{EachRefines, Refines}
use Rattle.plan_meaning.specs.Scans.{KeepScans, Keeps, scans_in}
use Rattle.plan_pass_laws.specs.declared.kind.RuleKind.{RuleKind}
use Rattle.plan_pass_laws.specs.Weights.{bulk, bulk_in, weight, weight_in}
use Rattle.plan_pass_laws.specs.Patterns.{are_counted, are_quiet, is_counted, is_quiet, shows_one}
use Rattle.plan_pass_laws.specs.Clearing.{AreCleared, Cleared}

-- what was done: whether something was put in the place of something, and how often that is counted
pub record Done : Type 0 where
  pub changed : Bool
  pub replaced : ℕ

-- two things that were done one after the other
abbrev pub both : Done → Done → Done
both d e = record { changed = d.changed || e.changed; replaced = d.replaced + e.replaced }

-- nothing was done
abbrev pub idle : Done
idle = record { changed = false; replaced = 0 }

-- what is counted of one replacement by a rule of a kind
abbrev pub one_done : RuleKind → Done
one_done k = record { changed = true; replaced = if is_counted k then 1 else 0 }

-- rules of these kinds left plans in the place of others: these refine the others and keep their scans, the replacements that are counted and what is left weigh no more than before, and where nothing changed only marks were cleared
pub record Reworks (ks : List RuleKind) (qs ps : Roses (Unit {0}) Op) (done : Done) : Type 0 where
  pub refine : EachRefines qs ps
  pub keep : KeepScans (scans_in qs) (scans_in ps)
  pub counted : done.replaced + weight_in qs ≤ weight_in ps
  pub moved : done.changed ≡ true → weight_in qs < weight_in ps
  pub still : done.changed ≡ false → AreCleared qs ps
  pub plain : are_counted ks ≡ true → done.replaced + bulk_in qs ≤ bulk_in ps
  pub seen : are_counted ks ≡ true → done.changed ≡ true → 1 ≤ done.replaced

-- rules of these kinds left one plan in the place of another
abbrev pub Reworked : List RuleKind → Plan → Plan → Done → Type 0
Reworked ks q p done = Reworks ks (more q no_roses) (more p no_roses) done

-- a walk of rules of these kinds left plans in the place of others; where it changed nothing, no pattern of theirs stands at a node
pub record Walked (ks : List RuleKind) (qs ps : Roses (Unit {0}) Op) (done : Done) : Type 0 where
  pub reworks : Reworks ks qs ps done
  pub quiet : done.changed ≡ false → are_quiet ks qs ≡ true

-- a walk of rules of these kinds left one plan in the place of another
abbrev pub WalkedAlone : List RuleKind → Plan → Plan → Done → Type 0
WalkedAlone ks q p done = Walked ks (more q no_roses) (more p no_roses) done

-- where nothing was changed, no pattern of the kinds stands at the root of a plan
abbrev pub QuietAt : List RuleKind → Plan → Done → Type 0
QuietAt ks p done = done.changed ≡ false → shows_one ks p ≡ false

-- the loop over rules of these kinds left q in the place of p, after so many counted replacements
pub record Settles (ks : List RuleKind) (p q : Plan) (replaced : ℕ) : Type 0 where
  pub refines : Refines q p
  pub keeps : Keeps q p
  pub counted : replaced + weight q ≤ weight p
  pub same : weight q ≡ weight p → Cleared q p
  pub quiet : is_quiet ks q ≡ true
  pub plain : are_counted ks ≡ true → replaced + bulk q ≤ bulk p
  pub nothing : are_counted ks ≡ true → replaced ≡ 0 → Cleared q p
