-- A plan with a count of the rows of files in its place: which plan that is, what it scans, and that it keeps sharing.
use Rattle.std.proofs.Common.{◌≡◌, true, false, [], ◌∷◌, Option, None, Some, is_some, refl}
use Rattle.plan_scan.specs.declared.file_scan.FileScan.{FileScan}
use Rattle.plan_scan.specs.declared.sources.ScanSources.{ScanSources}
use Rattle.plan_expr.specs.Leaves.{Name}
use Rattle.plan_ir.specs.Plans.{frame_scan, Plan}
use Rattle.plan_meaning.specs.Caches.{AreShared}
use Rattle.plan_meaning.specs.Scans.{scans}
use Rattle.plan_order_laws.specs.Counted.{count_alias, count_of, count_or, count_plan, countable, counted}

-- a count scans a frame without columns
pub counted_scan : (x : ScanSources × FileScan) (alias : Option Name) → scans (count_plan x alias) ≡ frame_scan None [] None ∷ []
counted_scan x alias = refl

-- a count has no caches, so caches stay shared
pub counted_shares : (p : Plan) → AreShared p → AreShared (counted p)
counted_shares p h = at (count_of p)
  where
    at : (o : Option (ScanSources × FileScan)) → AreShared (count_or o (count_alias p) p)
    at None = h
    at (Some x) = λ c d i j e. absurd i

-- a plan that tells the number of such rows alone has a count in its place, and every other stays
pub counted_is : (p : Plan) → (countable p ≡ false → counted p ≡ p) × (countable p ≡ true → (x : ScanSources × FileScan) × (alias : Option Name) × (counted p ≡ count_plan x alias))
counted_is p = at (count_of p)
  where
    at : (o : Option (ScanSources × FileScan)) → (is_some o ≡ false → count_or o (count_alias p) p ≡ p) × (is_some o ≡ true → (x : ScanSources × FileScan) × (alias : Option Name) × (count_or o (count_alias p) p ≡ count_plan x alias))
    at None = ((λ e. refl), (λ e. cc))
    at (Some x) = ((λ e. cc), (λ e. (x, count_alias p, refl)))
