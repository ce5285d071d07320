-- Columns of which no two have one name are read again of what is written for them.
use Rattle.std.proofs.Common.{◌≡◌, true, false, List, [], ◌∷◌, Some, refl}
use Rattle.std.specs.List.{list_any, AllByRecursion, IsDistinct}
use Rattle.std.specs.Str.{bytes_eq}
use Rattle.plan_core.specs.Columns.{Columns, HasDistinctNames, names_of}
use Rattle.plan_core.proofs.ColumnLemmas.{flip_false}
use Rattle.plan_expr.specs.Leaves.{Name}
use Rattle.plan_doc_parts.specs.Parts.{are_distinct, columns_of}
use Rattle.plan_doc_parts.proofs.DistinctLemmas.{either_false}
use Rattle.plan_text_pieces.specs.Values.{columns_data}
use Rattle.plan_round_trip.proofs.Lists.{nullable_read}
use Rattle.plan_round_trip.proofs.Pieces.{columns_read, no_columns}
use Rattle.plan_round_trip.proofs.Told.{ToldColumns, ToldSomeColumns}

none_there : (n : Name) (ns : List Name) → AllByRecursion (λ (y : Name). bytes_eq n y ≡ false) ns → list_any (λ (m : Name). bytes_eq m n) ns ≡ false
none_there n [] a = refl
none_there n (m ∷ ns) a = either_false (bytes_eq m n) (list_any (λ (k : Name). bytes_eq k n) ns) (flip_false n m a.0, none_there n ns a.1)

pub distinct_names : (ns : List Name) → IsDistinct bytes_eq ns → are_distinct bytes_eq ns ≡ true
unfolding IsDistinct
distinct_names [] d = refl
distinct_names (n ∷ ns) d = rw (none_there n ns d.0, distinct_names ns d.1) refl

pub columns_told : (cs : Columns) → HasDistinctNames cs → ToldColumns cs
columns_told cs d = columns_read cs (rw (distinct_names (names_of cs) d) refl)

pub some_told : (cs : Columns) → HasDistinctNames cs → ToldSomeColumns (Some cs)
some_told cs d = nullable_read columns_of columns_data cs no_columns (columns_told cs d)
