-- Scans by what they read, what they give and what their files hold.
use Rattle.std.proofs.Common.{◌≡◌, Option, Some, None, refl}
use Rattle.std.specs.Prelude.{codes}
use Rattle.serde_json.specs.Data.{Data}
use Rattle.plan_ir.specs.declared.ir.IR.TheVariants as nodes
use Rattle.plan_doc_parts.specs.Parts.{◌>>=◌, nullable, columns_of, output_of}
use Rattle.plan_doc_parts.specs.Members.{object_of, at}
use Rattle.plan_doc_scans.specs.Hive.{hive_parts_of}
use Rattle.plan_doc_scans.specs.Scans.{files_of, file_info_of, file_options_of, read_of, given_of, held_of, scan_keys, scan_of}

-- two steps as one
abbrev both : {A B : Type 0} → Option A → Option B → Option (A × B)
both a b = a >>= λ x. b >>= λ y. Some (x, y)

-- six steps, and the same two by two
two_by_two : {A B C D E F G : Type 0} (a : Option A) (b : Option B) (c : Option C) (d : Option D) (e : Option E) (f : Option F) (k : A → B → C → D → E → F → G) → (a >>= λ u. b >>= λ v. c >>= λ w. d >>= λ x. e >>= λ y. f >>= λ z. Some (k u v w x y z)) ≡ (both a b >>= λ r. both c d >>= λ s. both e f >>= λ t. Some (k r.0 r.1 s.0 s.1 t.0 t.1))
two_by_two None b c d e f k = refl
two_by_two (Some u) None c d e f k = refl
two_by_two (Some u) (Some v) None d e f k = refl
two_by_two (Some u) (Some v) (Some w) None e f k = refl
two_by_two (Some u) (Some v) (Some w) (Some x) None f k = refl
two_by_two (Some u) (Some v) (Some w) (Some x) (Some y) None k = refl
two_by_two (Some u) (Some v) (Some w) (Some x) (Some y) (Some z) k = refl

-- the same step before two that are alike
alike : {A B : Type 0} (a : Option A) (f g : A → Option B) → ((x : A) → f x ≡ g x) → (a >>= f) ≡ (a >>= g)
alike (Some x) f g same = same x
alike None f g same = refl

-- a scan by three parts of its object
pub scan_by : (d : Data) → scan_of d ≡ (object_of scan_keys d >>= λ o. read_of o >>= λ r. given_of o >>= λ s. held_of o >>= λ t. Some (nodes.Scan r.0.0 t.0 r.1 s.1 s.0 r.0.1 t.1))
unfolding scan_of read_of given_of held_of
scan_by d = alike (object_of scan_keys d) _ _ (λ o. two_by_two (files_of o) (at (codes "hive") (nullable hive_parts_of) o) (at (codes "output") (nullable columns_of) o) (at (codes "predicate") (nullable output_of) o) (file_info_of o) (file_options_of o) (λ files hive out p info options. nodes.Scan files.0 info hive p out files.1 options))
