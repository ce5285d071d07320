-- The words for what bytes stand for.
use Rattle.std.specs.Prelude.{ℕ, List, codes}
use Rattle.plan_doc.specs.Document.{Reading, not_json, form, document}

-- the word for a document, for JSON of another form, or for no JSON
abbrev pub word_of : Reading → List ℕ
word_of (document d) = codes "reads"
word_of form = codes "form"
word_of not_json = codes "json"
