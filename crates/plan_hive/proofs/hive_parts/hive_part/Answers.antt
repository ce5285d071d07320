use Rattle.std.proofs.Common.{◌≡◌, ◌∙◌, ◌<◌, ◌==◌, length, lit<, subst, sym, ap, None, Some, false}
use Rattle.std.specs.List.{before_first, after_first}
use Rattle.std.specs.Str.{IsUtf8}
use Rattle.std.proofs.lemmas.Str.Pattern.{split_once_first}
use Rattle.percent_encoding.specs.declared.DecodeError.{DecodeError}
use Rattle.percent_encoding.specs.Percent.{percent_decode}
use Rattle.plan_hive.specs.Parts.{Text, has_byte, value_of}
use Rattle.plan_hive.proofs.PartLemmas.{before, is-column, no-equals, not-text}
use Rattle.plan_hive.proofs.hive_parts.hive_part.Goals as goal

pub returns-in_default : goal.returns-in_default
returns-in_default c = no-equals c.args.part.now (split_once_first 61 c.args.part.now None c.in_default.ensures.cases (lit< tt))

pub returns-in_ok-value_of-in-Ok : goal.returns-in_ok-value_of-in-Ok
returns-in_ok-value_of-in-Ok c =
    let part = c.args.part.now in
    let name = c.in-Some.name.now in
    let value = c.in-Some.value.now in
    let cut : (before 61 part < length part) × (name ≡ before_first (λ b. b == 61) part) × (value ≡ after_first (λ b. b == 61) part) = let f = split_once_first 61 part (Some (c.in-Some.name, c.in-Some.value)) c.in-Some.ensures.cases (lit< tt) in f in
    let one : has_byte 61 value ≡ false = sym c.has_byte.ensures ∙ c.if-has_byte.false in
    let plain : has_byte 42 value ≡ false = sym c.has_byte-else-has_byte.ensures ∙ c.if-has_byte-2.false in
    let decoded : percent_decode c.percent_decode.result.bytes.now ≡ percent_decode value = c.percent_decode.ensures.bytes ∙ ap percent_decode c.as_bytes.ensures.value in
    let text : IsUtf8 (percent_decode value) = subst IsUtf8 decoded c.in-Ok.ensures.ok_only_if_utf8 in
    let v = c.in_ok-value_of-in-Ok.field-0 in
    let said : v ≡ value_of (percent_decode value) = c.in_ok-value_of-in-Ok.ensures ∙ ap value_of (c.as_str.ensures.value ∙ c.in-Ok.ensures.value ∙ decoded) in
    ap (λ (n : Text). Some (n, v)) c.in_ok-new-in-Ok.ensures ∙ is-column part name value cut.0 cut.1 cut.2 one plain text v said

pub returns-in-Err-Utf8 : goal.returns-in-Err-Utf8
returns-in-Err-Utf8 c =
    let part = c.args.part.now in
    let name = c.in-Some.name.now in
    let value = c.in-Some.value.now in
    let cut : (before 61 part < length part) × (name ≡ before_first (λ b. b == 61) part) × (value ≡ after_first (λ b. b == 61) part) = let f = split_once_first 61 part (Some (c.in-Some.name, c.in-Some.value)) c.in-Some.ensures.cases (lit< tt) in f in
    let one : has_byte 61 value ≡ false = sym c.has_byte.ensures ∙ c.if-has_byte.false in
    let plain : has_byte 42 value ≡ false = sym c.has_byte-else-has_byte.ensures ∙ c.if-has_byte-2.false in
    let decoded : percent_decode c.percent_decode.result.bytes.now ≡ percent_decode value = c.percent_decode.ensures.bytes ∙ ap percent_decode c.as_bytes.ensures.value in
    not-text part name value cut.0 cut.1 cut.2 one plain (λ text.
    let wrong : c.in-Err-Utf8.field-0 ≡ DecodeError.OutOfMemory = c.in-Err-Utf8.ensures.utf8 (subst IsUtf8 (sym decoded) text) in
    let is = c.in-Err-Utf8.field-0-is in
    cc)
