-- The JSON values of what only some kinds of joins are told.
use Rattle.std.specs.Prelude.{Option, Some, None, codes}
use Rattle.serde_json.specs.Data.{Data, Items, string, array, no_items, item}
use Rattle.plan_join.specs.declared.options.JoinTypeOptionsIR.{JoinTypeOptionsIR}
use Rattle.plan_join.specs.declared.options.JoinTypeOptionsIR.TheVariants as told
use Rattle.plan_options.specs.declared.join.IEJoinOptions.{IEJoinOptions}
use Rattle.plan_options.specs.declared.join.InequalityOperator.{InequalityOperator}
use Rattle.plan_text_pieces.specs.Kinds.{inequality_text}
use Rattle.plan_text_pieces.specs.Values.{only_data, output_data}

-- after the first of an array one inequality more, or none
abbrev pub second_items : Option InequalityOperator → Items
second_items None = no_items
second_items (Some op) = item (string (inequality_text op)) no_items

-- the inequalities that keys meet, one for each pair
unfoldable pub inequalities_data : IEJoinOptions → Data
inequalities_data o = array (item (string (inequality_text o.operator1)) (second_items o.operator2))

-- what only some kinds of joins are told, under its name
unfoldable pub kind_options_data : JoinTypeOptionsIR → Data
kind_options_data (told.IEJoin o) = only_data (codes "ie") (inequalities_data o)
kind_options_data (told.Cross predicate) = only_data (codes "cross") (output_data predicate)
