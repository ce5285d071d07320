use Rattle.std.proofs.Common.{◌∙◌, List, ap, sym, refl, arith, Some}
use Rattle.std.specs.List.{slice_get}
use Rattle.plan_core.specs.declared.arena.Node.{Node}
use Rattle.plan_ir.specs.declared.ir.IR.TheVariants.{Slice, Filter, Scan, DataFrameScan, SimpleProjection, Select, HStack, Sort, GroupBy, Join, Distinct, MapFunction, Sink, Union, HConcat, Cache}
use Rattle.plan_ir.specs.Parts.{plan_shape}
use Rattle.plan_tree.proofs.TreeLemmas.{height-falls, StandsOnce-input}
use Rattle.plan_schema.specs.Stored.{given_by}
use Rattle.plan_schema.proofs.StoredNodes.{tells_up, stored_first, stored_none, stored_open}
use Rattle.plan_schema.proofs.stored.+stored.Goals as goal

pub stored-requires : goal.stored-requires
stored-requires t c =
    let e = c.get.ensures.entry ∙ ap Some c.in-Slice.is in
    let falls = height-falls plan_shape c.args.lp.now c.args.node c.in-Slice.input (Slice c.in-Slice.input c.in-Slice.offset c.in-Slice.len) c.requires.0 0 c.requires.1 e refl in
    (omega (arith, falls, c.decreases), StandsOnce-input plan_shape c.args.lp.now c.args.node c.in-Slice.input (Slice c.in-Slice.input c.in-Slice.offset c.in-Slice.len) 0 c.requires e refl)

pub stored-requires-in-Filter : goal.stored-requires-in-Filter
stored-requires-in-Filter t c =
    let e = c.get.ensures.entry ∙ ap Some c.in-Filter.is in
    let falls = height-falls plan_shape c.args.lp.now c.args.node c.in-Filter.input (Filter c.in-Filter.input c.in-Filter.predicate) c.requires.0 0 c.requires.1 e refl in
    (omega (arith, falls, c.decreases), StandsOnce-input plan_shape c.args.lp.now c.args.node c.in-Filter.input (Filter c.in-Filter.input c.in-Filter.predicate) 0 c.requires e refl)

pub returns-in-Slice : goal.returns-in-Slice
returns-in-Slice t c = tells_up c.stored.result c.args.lp.now c.args.node c.in-Slice.input (λ ex. stored_open c.args.lp.now ex c.args.node (Slice c.in-Slice.input c.in-Slice.offset c.in-Slice.len) c.requires (c.get.ensures.entry ∙ ap Some c.in-Slice.is)) c.stored.ensures

pub returns-in-Filter : goal.returns-in-Filter
returns-in-Filter t c = tells_up c.stored-in-Filter.result c.args.lp.now c.args.node c.in-Filter.input (λ ex. stored_open c.args.lp.now ex c.args.node (Filter c.in-Filter.input c.in-Filter.predicate) c.requires (c.get.ensures.entry ∙ ap Some c.in-Filter.is)) c.stored-in-Filter.ensures

pub returns-in-Scan : goal.returns-in-Scan
returns-in-Scan t c = λ ex. c.told.ensures ∙ stored_open c.args.lp.now ex c.args.node (Scan c.in-Scan.sources c.in-Scan.file_info c.in-Scan.hive_parts c.in-Scan.predicate c.in-Scan.output_schema c.in-Scan.scan_type c.in-Scan.file_options) c.requires (c.get.ensures.entry ∙ ap Some c.in-Scan.is)

pub returns-in-DataFrameScan : goal.returns-in-DataFrameScan
returns-in-DataFrameScan t c = λ ex. c.told-in-DataFrameScan.ensures ∙ stored_open c.args.lp.now ex c.args.node (DataFrameScan c.in-DataFrameScan.df c.in-DataFrameScan.schema c.in-DataFrameScan.output_schema) c.requires (c.get.ensures.entry ∙ ap Some c.in-DataFrameScan.is)

pub returns-in-SimpleProjection : goal.returns-in-SimpleProjection
returns-in-SimpleProjection t c = λ ex. stored_open c.args.lp.now ex c.args.node (SimpleProjection c.in-SimpleProjection.input c.in-SimpleProjection.columns) c.requires (c.get.ensures.entry ∙ ap Some c.in-SimpleProjection.is)

pub returns-in-Select : goal.returns-in-Select
returns-in-Select t c = λ ex. stored_open c.args.lp.now ex c.args.node (Select c.in-Select.input c.in-Select.expr c.in-Select.schema c.in-Select.options) c.requires (c.get.ensures.entry ∙ ap Some c.in-Select.is)

pub returns-in-HStack : goal.returns-in-HStack
returns-in-HStack t c = λ ex. stored_open c.args.lp.now ex c.args.node (HStack c.in-HStack.input c.in-HStack.exprs c.in-HStack.schema c.in-HStack.options) c.requires (c.get.ensures.entry ∙ ap Some c.in-HStack.is)

pub returns-in-GroupBy : goal.returns-in-GroupBy
returns-in-GroupBy t c = λ ex. stored_open c.args.lp.now ex c.args.node (GroupBy c.in-GroupBy.input c.in-GroupBy.keys c.in-GroupBy.aggs c.in-GroupBy.schema c.in-GroupBy.maintain_order c.in-GroupBy.options) c.requires (c.get.ensures.entry ∙ ap Some c.in-GroupBy.is)

pub returns-in-Join : goal.returns-in-Join
returns-in-Join t c = λ ex. stored_open c.args.lp.now ex c.args.node (Join c.in-Join.input_left c.in-Join.input_right c.in-Join.schema c.in-Join.left_on c.in-Join.right_on c.in-Join.options) c.requires (c.get.ensures.entry ∙ ap Some c.in-Join.is)

pub returns-in-HConcat : goal.returns-in-HConcat
returns-in-HConcat t c = λ ex. stored_open c.args.lp.now ex c.args.node (HConcat c.in-HConcat.inputs c.in-HConcat.schema c.in-HConcat.options) c.requires (c.get.ensures.entry ∙ ap Some c.in-HConcat.is)

pub stored-requires-in-Sort : goal.stored-requires-in-Sort
stored-requires-in-Sort t c =
    let e = c.get.ensures.entry ∙ ap Some c.in-Sort.is in
    let falls = height-falls plan_shape c.args.lp.now c.args.node c.in-Sort.input (Sort c.in-Sort.input c.in-Sort.by_column c.in-Sort.slice c.in-Sort.sort_options) c.requires.0 0 c.requires.1 e refl in
    (omega (arith, falls, c.decreases), StandsOnce-input plan_shape c.args.lp.now c.args.node c.in-Sort.input (Sort c.in-Sort.input c.in-Sort.by_column c.in-Sort.slice c.in-Sort.sort_options) 0 c.requires e refl)

pub returns-in-Sort : goal.returns-in-Sort
returns-in-Sort t c = tells_up c.stored-in-Sort.result c.args.lp.now c.args.node c.in-Sort.input (λ ex. stored_open c.args.lp.now ex c.args.node (Sort c.in-Sort.input c.in-Sort.by_column c.in-Sort.slice c.in-Sort.sort_options) c.requires (c.get.ensures.entry ∙ ap Some c.in-Sort.is)) c.stored-in-Sort.ensures

pub stored-requires-in-Distinct : goal.stored-requires-in-Distinct
stored-requires-in-Distinct t c =
    let e = c.get.ensures.entry ∙ ap Some c.in-Distinct.is in
    let falls = height-falls plan_shape c.args.lp.now c.args.node c.in-Distinct.input (Distinct c.in-Distinct.input c.in-Distinct.options) c.requires.0 0 c.requires.1 e refl in
    (omega (arith, falls, c.decreases), StandsOnce-input plan_shape c.args.lp.now c.args.node c.in-Distinct.input (Distinct c.in-Distinct.input c.in-Distinct.options) 0 c.requires e refl)

pub returns-in-Distinct : goal.returns-in-Distinct
returns-in-Distinct t c = tells_up c.stored-in-Distinct.result c.args.lp.now c.args.node c.in-Distinct.input (λ ex. stored_open c.args.lp.now ex c.args.node (Distinct c.in-Distinct.input c.in-Distinct.options) c.requires (c.get.ensures.entry ∙ ap Some c.in-Distinct.is)) c.stored-in-Distinct.ensures

pub stored-requires-in-Sink : goal.stored-requires-in-Sink
stored-requires-in-Sink t c =
    let e = c.get.ensures.entry ∙ ap Some c.in-Sink.is in
    let falls = height-falls plan_shape c.args.lp.now c.args.node c.in-Sink.input (Sink c.in-Sink.input c.in-Sink.payload) c.requires.0 0 c.requires.1 e refl in
    (omega (arith, falls, c.decreases), StandsOnce-input plan_shape c.args.lp.now c.args.node c.in-Sink.input (Sink c.in-Sink.input c.in-Sink.payload) 0 c.requires e refl)

pub returns-in-Sink : goal.returns-in-Sink
returns-in-Sink t c = tells_up c.stored-in-Sink.result c.args.lp.now c.args.node c.in-Sink.input (λ ex. stored_open c.args.lp.now ex c.args.node (Sink c.in-Sink.input c.in-Sink.payload) c.requires (c.get.ensures.entry ∙ ap Some c.in-Sink.is)) c.stored-in-Sink.ensures

pub stored-requires-in-Cache : goal.stored-requires-in-Cache
stored-requires-in-Cache t c =
    let e = c.get.ensures.entry ∙ ap Some c.in-Cache.is in
    let falls = height-falls plan_shape c.args.lp.now c.args.node c.in-Cache.input (Cache c.in-Cache.input c.in-Cache.id c.in-Cache.cache_hits) c.requires.0 0 c.requires.1 e refl in
    (omega (arith, falls, c.decreases), StandsOnce-input plan_shape c.args.lp.now c.args.node c.in-Cache.input (Cache c.in-Cache.input c.in-Cache.id c.in-Cache.cache_hits) 0 c.requires e refl)

pub returns-in-Cache : goal.returns-in-Cache
returns-in-Cache t c = tells_up c.stored-in-Cache.result c.args.lp.now c.args.node c.in-Cache.input (λ ex. stored_open c.args.lp.now ex c.args.node (Cache c.in-Cache.input c.in-Cache.id c.in-Cache.cache_hits) c.requires (c.get.ensures.entry ∙ ap Some c.in-Cache.is)) c.stored-in-Cache.ensures

pub stored-requires-in-Some : goal.stored-requires-in-Some
stored-requires-in-Some t c =
    let e = c.get.ensures.entry ∙ ap Some c.in-Union.is in
    let first = ap (λ (l : List Node). slice_get l 0) (sym c.as_slice.ensures) ∙ sym c.in-Some.ensures.value in
    let falls = height-falls plan_shape c.args.lp.now c.args.node c.in-Some.input.now (Union c.in-Union.inputs c.in-Union.options) c.requires.0 0 c.requires.1 e first in
    (omega (arith, falls, c.decreases), StandsOnce-input plan_shape c.args.lp.now c.args.node c.in-Some.input.now (Union c.in-Union.inputs c.in-Union.options) 0 c.requires e first)

pub returns-in-Some : goal.returns-in-Some
returns-in-Some t c =
    let e = c.get.ensures.entry ∙ ap Some c.in-Union.is in
    let first = ap (λ (l : List Node). slice_get l 0) (sym c.as_slice.ensures) ∙ sym c.in-Some.ensures.value in
    tells_up c.stored-in-Some.result c.args.lp.now c.args.node c.in-Some.input.now (λ ex.
    stored_first c.args.lp.now ex c.in-Some.input.now c.in-Union.inputs (StandsOnce-input plan_shape c.args.lp.now c.args.node c.in-Some.input.now (Union c.in-Union.inputs c.in-Union.options) 0 c.requires e first) first
    ∙ stored_open c.args.lp.now ex c.args.node (Union c.in-Union.inputs c.in-Union.options) c.requires e) c.stored-in-Some.ensures

pub returns-in-None : goal.returns-in-None
returns-in-None t c = λ ex.
    c.new.ensures
    ∙ stored_none c.args.lp.now ex c.in-Union.inputs (ap (λ (l : List Node). slice_get l 0) (sym c.as_slice.ensures) ∙ sym c.in-None.ensures.value)
    ∙ stored_open c.args.lp.now ex c.args.node (Union c.in-Union.inputs c.in-Union.options) c.requires (c.get.ensures.entry ∙ ap Some c.in-Union.is)

pub stored-requires-in-MapFunction : goal.stored-requires-in-MapFunction
stored-requires-in-MapFunction t c =
    let e = c.get.ensures.entry ∙ ap Some c.in-MapFunction.is in
    let falls = height-falls plan_shape c.args.lp.now c.args.node c.in-MapFunction.input (MapFunction c.in-MapFunction.input c.in-MapFunction.function) c.requires.0 0 c.requires.1 e refl in
    (omega (arith, falls, c.decreases), StandsOnce-input plan_shape c.args.lp.now c.args.node c.in-MapFunction.input (MapFunction c.in-MapFunction.input c.in-MapFunction.function) 0 c.requires e refl)

pub returns-in_ok-schema-in-MapFunction : goal.returns-in_ok-schema-in-MapFunction
returns-in_ok-schema-in-MapFunction t c = λ ex.
    c.in_ok-schema-in-MapFunction.ensures
    ∙ ap (given_by c.in-MapFunction.function) (c.columns.ensures ∙ c.in_ok-below-in-MapFunction.ensures ex)
    ∙ stored_open c.args.lp.now ex c.args.node (MapFunction c.in-MapFunction.input c.in-MapFunction.function) c.requires (c.get.ensures.entry ∙ ap Some c.in-MapFunction.is)
