-- What is read again of the operators of a plan: their columns, and the rest.
use Rattle.std.proofs.Common.{◌≡◌, List, Option, refl}
use Rattle.std.specs.List.{AllByRecursion}
use Rattle.plan_ir.specs.Parts.{list_of}
use Rattle.plan_ir.specs.Plans.{Op, cache, distinct, filter, frame_scan, group_by, hconcat, hstack, invalid, join, map_function, scan, select, simple_projection, sink, slice, sort, union}
use Rattle.plan_scan.specs.Stats.{Stats}
use Rattle.plan_doc_parts.specs.Parts.{nullable, number_of, integer_of}
use Rattle.plan_doc_scans.specs.Functions.{frame_function_of}
use Rattle.plan_doc_scans.specs.Hive.{hive_parts_of}
use Rattle.plan_doc_scans.specs.Scans.{sources_of}
use Rattle.plan_text_pieces.specs.Functions.{frame_function_data}
use Rattle.plan_text_pieces.specs.Hive.{hive_parts_data}
use Rattle.plan_text_pieces.specs.Values.{integer_data, nullable_data, number_data, sources_data}
use Rattle.plan_round_trip.proofs.Renumbered.{NamedTold, NodeOpTold, conditions}
use Rattle.plan_round_trip.proofs.Steps.{Again}
use Rattle.plan_round_trip.proofs.Told.{ToldColumns, ToldNumber, ToldReading, ToldSlice, ToldSomeColumns, told_sort, told_union}

abbrev pub ToldHive : Option (List Stats) → Type 0
ToldHive parts = Again (nullable hive_parts_of) (nullable_data hive_parts_data) parts

-- the columns that a node stores, or puts out, are read again
abbrev pub ColumnsTold : Op → Type 0
ColumnsTold (slice offset count) = Unit {0}
ColumnsTold (filter predicate) = Unit {0}
ColumnsTold (scan from info hive predicate output format options) = ToldColumns info.schema × ToldSomeColumns output
ColumnsTold (frame_scan df schema output) = ToldSomeColumns output
ColumnsTold (simple_projection columns) = ToldColumns columns
ColumnsTold (select own schema options) = ToldColumns schema
ColumnsTold (hstack own schema options) = ToldColumns schema
ColumnsTold (sort keys cut options) = Unit {0}
ColumnsTold (group_by keys aggs schema maintain_order options) = ToldColumns schema
ColumnsTold (join left_on right_on schema told) = ToldColumns schema
ColumnsTold (distinct options) = Unit {0}
ColumnsTold (map_function function) = Unit {0}
ColumnsTold (sink payload) = Unit {0}
ColumnsTold (union options) = Unit {0}
ColumnsTold (hconcat schema options) = ToldColumns schema
ColumnsTold (cache id hits) = Unit {0}
ColumnsTold invalid = Unit {0}

-- the rest of a node is read again
abbrev pub RestTold : Op → Type 0
RestTold (slice offset count) = Again integer_of integer_data offset × ToldNumber count
RestTold (filter predicate) = NamedTold predicate
RestTold (scan from info hive predicate output format options) = Again sources_of sources_data from × ToldSomeColumns info.reader_schema × ToldHive hive × ToldReading options × AllByRecursion NamedTold (list_of predicate)
RestTold (frame_scan df schema output) = Again (nullable number_of) (nullable_data number_data) df × ToldColumns schema
RestTold (simple_projection columns) = Unit {0}
RestTold (select own schema options) = AllByRecursion NamedTold own
RestTold (hstack own schema options) = AllByRecursion NamedTold own
RestTold (sort keys cut options) = AllByRecursion NamedTold keys × ToldSlice cut × (told_sort options ≡ options)
RestTold (group_by keys aggs schema maintain_order options) = AllByRecursion NamedTold keys × AllByRecursion NamedTold aggs × ToldSlice options.slice
RestTold (join left_on right_on schema told) = AllByRecursion NamedTold left_on × AllByRecursion NamedTold right_on × ToldSlice told.args.slice × AllByRecursion NamedTold (conditions told.options)
RestTold (distinct options) = ToldSlice options.slice
RestTold (map_function function) = Again frame_function_of frame_function_data function
RestTold (sink payload) = Unit {0}
RestTold (union options) = ToldSlice options.slice × (told_union options ≡ options)
RestTold (hconcat schema options) = Unit {0}
RestTold (cache id hits) = ToldNumber id × ToldNumber hits
RestTold invalid = Unit {0}

pub rest_of : (op : Op) → NodeOpTold op → RestTold op
rest_of (slice offset count) t = t
rest_of (filter predicate) t = t
rest_of (scan from info hive predicate output format options) t = (t.0.sources, t.0.reader, t.0.hive, t.0.reading, t.1)
rest_of (frame_scan df schema output) t = (t.0, t.1)
rest_of (simple_projection columns) t = tt
rest_of (select own schema options) t = t.0
rest_of (hstack own schema options) t = t.0
rest_of (sort keys cut options) t = t
rest_of (group_by keys aggs schema maintain_order options) t = (t.0, t.1, t.3)
rest_of (join left_on right_on schema told) t = (t.0, t.1, t.3, t.4)
rest_of (distinct options) t = t
rest_of (map_function function) t = t
rest_of (sink payload) t = tt
rest_of (union options) t = t
rest_of (hconcat schema options) t = tt
rest_of (cache id hits) t = t
rest_of invalid t = tt

pub whole_of : (op : Op) → RestTold op → ColumnsTold op → NodeOpTold op
whole_of (slice offset count) t c = t
whole_of (filter predicate) t c = t
whole_of (scan from info hive predicate output format options) t c =
    (record { sources = t.0; schema = c.0; reader = t.1; hive = t.2; predicate = refl; output = c.1; reading = t.3 }, t.4)
whole_of (frame_scan df schema output) t c = (t.0, t.1, c)
whole_of (simple_projection columns) t c = c
whole_of (select own schema options) t c = (t, c)
whole_of (hstack own schema options) t c = (t, c)
whole_of (sort keys cut options) t c = t
whole_of (group_by keys aggs schema maintain_order options) t c = (t.0, t.1, c, t.2)
whole_of (join left_on right_on schema told) t c = (t.0, t.1, c, t.2, t.3)
whole_of (distinct options) t c = t
whole_of (map_function function) t c = t
whole_of (sink payload) t c = tt
whole_of (union options) t c = t
whole_of (hconcat schema options) t c = c
whole_of (cache id hits) t c = t
whole_of invalid t c = tt
