-- Tables as frames.
use Rattle.std.proofs.Common.{◌≡◌, ◌++◌, Bool, true, false, cond, List, [], ◌∷◌, replicate, Option, None, Some, option_map, refl, ap, sym, ◌∙◌}
use Rattle.std.specs.Str.{bytes_eq}
use Rattle.std.specs.Option.{unwrap_or}
use Rattle.std.proofs.lemmas.List.{map-append}
use Rattle.plan_table.specs.declared.value.AnyValue.{AnyValue}
use Rattle.plan_table.specs.declared.column.Column.{Column as Typed}
use Rattle.plan_table.specs.declared.table.Table.{Table}
use Rattle.plan_table.specs.Tables.{column_of}
use Rattle.plan_expr.specs.Leaves.{Name}
use Rattle.plan_frame.specs.Values.{Value, null}
use Rattle.plan_frame.specs.Frames.{column_or, found}
use Rattle.plan_value.specs.Shown.{value_of, values_of, columns_shown, frame_of}

found-cond : (b : Bool) (c : Typed) (o : Option Typed) → cond b (Some (values_of c.values)) (option_map (λ (d : Typed). values_of d.values) o) ≡ option_map (λ (d : Typed). values_of d.values) (cond b (Some c) o)
found-cond true c o = refl
found-cond false c o = refl

-- the values of a name are those of the column of that name
pub found-shown : (cs : List Typed) (a : Name) → found (columns_shown cs) a ≡ option_map (λ (c : Typed). values_of c.values) (column_of cs a)
found-shown [] a = refl
found-shown (c ∷ cs) a = ap (λ (o : Option (List Value)). cond (bytes_eq a c.name) (Some (values_of c.values)) o) (found-shown cs a) ∙ found-cond (bytes_eq a c.name) c (column_of cs a)

-- the values of a column that there is
pub column-there : (t : Table) (a : Name) (c : Typed) → column_of t.columns a ≡ Some c → values_of c.values ≡ column_or (frame_of t) a
column-there t a c h = sym (ap (λ (o : Option (List Value)). unwrap_or o (replicate t.height null)) (found-shown t.columns a ∙ ap (option_map (λ (d : Typed). values_of d.values)) h))

-- null in each row of a column that there isn't
pub column-absent : (t : Table) (a : Name) → column_of t.columns a ≡ None → replicate t.height null ≡ column_or (frame_of t) a
column-absent t a h = sym (ap (λ (o : Option (List Value)). unwrap_or o (replicate t.height null)) (found-shown t.columns a ∙ ap (option_map (λ (d : Typed). values_of d.values)) h))

-- one value more
pub values-push : (vs : List AnyValue) (v : AnyValue) → values_of (vs ++ v ∷ []) ≡ values_of vs ++ value_of v ∷ []
values-push vs v = map-append value_of vs (v ∷ [])
