-- Explodes: what they ask is in their input.
use Rattle.std.proofs.Common.{◌≡◌, true, List, sym, ◌∙◌, ⊎_elim}
use Rattle.plan_core.specs.declared.error.PolarsError.TheVariants.{SchemaFieldNotFound, SchemaMismatch}
use Rattle.plan_core.specs.Columns.{Columns, names_of, type_of}
use Rattle.plan_core.specs.Names.{has, with_names}
use Rattle.plan_expr.specs.Leaves.{Name}
use Rattle.plan_meaning.specs.Checks.{each, is_known}
use Rattle.plan_meaning.specs.Typing.{is_list_type, explode_checks, AllHold}
use Rattle.plan_frame.proofs.NameSets.{from_names, some-type_of}
use Rattle.plan_meaning.proofs.CheckParts.{hold_front, each_pass, name_passes}

-- what an explode asks is in its input
pub explode_known : (names wanted : List Name) (s : Columns) → AllHold (explode_checks names s) → ((a : Name) → has wanted a ≡ true → has (names_of s) a ≡ true) → (a : Name) → has (with_names wanted names) a ≡ true → has (names_of s) a ≡ true
unfolding explode_checks
explode_known names wanted s holds known a i = ⊎_elim
    (λ (e : has wanted a ≡ true). known a e)
    (λ (e : has names a ≡ true). sym (some-type_of s a) ∙ name_passes (λ (b : Name). is_known s b ≡ true) names (each_pass SchemaFieldNotFound 1 (is_known s) names (hold_front (each SchemaFieldNotFound 1 (is_known s) names) (each SchemaMismatch 1 (λ (b : Name). is_list_type (type_of s b)) names) holds)) a e)
    (from_names wanted names a i)
