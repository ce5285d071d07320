-- The keys of a sort, and rows that a closure sorts.
use Rattle.std.proofs.Common.{◌≡◌, ◌∙◌, ℕ, ℤ, Bool, List, [], ◌∷◌, Option, length, refl, sym, ap}
use Rattle.std.specs.Borrow.{Bor}
use Rattle.std.specs.Cmp.{IsStrictWeakOrder, IsTotalOrder}
use Rattle.std.specs.Fn.{Called, ComparesAs, Mut}
use Rattle.std.specs.List.Sorted.{IsSorted, IsSortedBy}
use Rattle.std.specs.List.{range_with_len}
use Rattle.std.specs.Ordering.{is_lt}
use Rattle.std.specs.declared.cmp.Ordering.{Ordering}
use Rattle.std.proofs.lemmas.Fn.{always_returns_same}
use Rattle.std.proofs.lemmas.List.FromFn.{length-range_with_len}
use Rattle.std.proofs.lemmas.List.Sorted.{length_permutation, ranks_by}
use Rattle.plan_expr.specs.Exprs.{Named}
use Rattle.plan_frame.specs.Frames.{rows_at}
use Rattle.plan_frame.specs.Orders.{key_cells, rows_cmp}
use Rattle.plan_meaning.specs.Typing.{AllHold, key_checks}
use Rattle.plan_meaning.proofs.CheckParts.{keys_good}
use Rattle.plan_frame.proofs.OrderLemmas.{rows_total}
use Rattle.plan_meaning.proofs.Runs.{keys_are}
use Rattle.plan_options.specs.declared.sort.SortMultipleOptions.{SortMultipleOptions}
use Rattle.plan_ir.specs.Plans.{sort}
use Rattle.plan_table.specs.declared.column.Column.{Column as Typed}
use Rattle.plan_table.specs.declared.source_key.SourceKey.{SourceKey}
use Rattle.plan_table.specs.declared.table.Table.{Table}
use Rattle.plan_table.specs.Tables.{HasRows}
use Rattle.plan_value.specs.Shown.{columns_shown, frame_of, schema_of}
use Rattle.plan_meaning.proofs.ChosenRows.{ranked_exists}
use Rattle.plan_function_tables.specs.Given.{Gives}
use Rattle.plan_fit.proofs.FormedLemmas.{columns-have}

-- rows stand in an order by the keys of a valid sort over a table whose columns have their types
pub keys-total : (t : Table) (keys : List Named) (descending nulls_last : List Bool) → HasRows t → AllHold (key_checks keys (schema_of t)) → IsTotalOrder (rows_cmp (key_cells keys (frame_of t)) descending nulls_last)
keys-total t keys descending nulls_last rows valid =
    rows_total t.height (key_cells keys (frame_of t)) descending nulls_last
    (keys_are (frame_of t) (schema_of t) keys (columns-have t.height t.columns rows) (keys_good keys (schema_of t) valid).typed)

-- what a sort ensures, where each call of its closure compares the two numbers
pub sorted-by : {F : Type 0} {g : Mut F (Bor ℕ × (Bor ℕ × Unit {0})) Ordering} {f : F} (cmp : ℕ → ℕ → Ordering) (rows : List ℕ) → IsTotalOrder cmp
    → ((lt : ℕ → ℕ → Bool) → IsStrictWeakOrder lt → ComparesAs g lt f → IsSortedBy lt rows)
    → ((a : Bor ℕ × (Bor ℕ × Unit {0})) (r : Ordering) (f' : F) → Called g f a r f' → (r ≡ cmp a.0.now a.1.0.now) × (f' ≡ f)) → IsSorted cmp rows
sorted-by {g = g} {f = f} cmp rows o up h =
    up (λ i j. is_lt (cmp i j)) (ranks_by o (λ i. i)) (always_returns_same g (λ a r. is_lt r ≡ is_lt (cmp a.0.now a.1.0.now)) f (λ a r f' k. (ap is_lt (h a r f' k).0, (h a r f' k).1)))

-- rows of a table without columns are the table where they are as many
bare-picked : (t : Table) (rows : List ℕ) → t.height ≡ length rows → length t.columns ≡ 0 → frame_of t ≡ rows_at rows (frame_of t)
bare-picked t rows high none = go t.columns none
  where
    go : (cs : List Typed) → length cs ≡ 0 → record { height = t.height; columns = columns_shown cs } ≡ rows_at rows (record { height = t.height; columns = columns_shown cs })
    go [] e = ap (λ (h : ℕ). record { height = h; columns = [] }) high
    go (c ∷ cs) e = cc

-- a table without columns is in each order
pub bare-sorted : (ts : List (SourceKey × Table)) (t : Table) (keys : List Named) (part : Option (ℤ × ℕ)) (options : SortMultipleOptions) → HasRows t → AllHold (key_checks keys (schema_of t)) → length t.columns ≡ 0 → Gives ts (sort keys part options) (t ∷ []) t
bare-sorted ts t keys part options rows valid none =
    let found = ranked_exists (rows_cmp (key_cells keys (frame_of t)) options.descending options.nulls_last) t.height (keys-total t keys options.descending options.nulls_last rows valid) in
    let high : t.height ≡ length found.0 = sym (length_permutation (range_with_len 0 t.height) found.0 found.1.permutes ∙ length-range_with_len 0 t.height) in
    record { step = (found.0, found.1, bare-picked t found.0 high none); types = refl }
