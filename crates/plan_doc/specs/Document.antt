-- The document that bytes stand for.
use Rattle.std.specs.Prelude.{◌≡◌, ℕ, ◌==◌, List, [], ◌∷◌, Option, Some, None, Result, Ok, Err, if◌then◌else◌, codes}
use Rattle.std.specs.Int.RustNames.{bit_and}
use Rattle.std.specs.Str.{is_utf8}
use Rattle.plan_core.specs.declared.flags.OptFlags.{OptFlags}
use Rattle.plan_core.specs.Flags.{flags_with, named_bits}
use Rattle.serde_json.specs.Read.{read}
use Rattle.serde_json.specs.Data.{Data}
use Rattle.serde_json.specs.View.{view}
use Rattle.serde_json.specs.declared.value.Value.{Value}
use Rattle.serde_json.specs.Find.{get}
use Rattle.plan_expr.specs.declared.aexpr.AExpr.{AExpr}
use Rattle.plan_ir.specs.declared.ir.IR.{IR}
use Rattle.plan_doc.specs.declared.document.Document.{Document}
use Rattle.plan_doc.specs.declared.document.ReadError.{ReadError}
use Rattle.plan_doc.specs.declared.document.ReadError.TheVariants as errors
use Rattle.plan_doc_parts.specs.Parts.{◌>>=◌, entries_of, each, nullable, number_of, link_of}
use Rattle.plan_doc_parts.specs.Members.{object_of, at}
use Rattle.plan_doc.specs.Built.{built_flags, unshared_of}
use Rattle.plan_doc.specs.Exprs.{expr_of}
use Rattle.plan_doc_nodes.specs.Nodes.{node_of}
use Rattle.plan_doc.specs.Tables.{tables_of}

-- a number whose bits all have names, as flags
abbrev pub named_flags : ℕ → Option OptFlags
named_flags n = if bit_and n named_bits == n then Some (flags_with n) else None

-- the flags of a number, whose bits all have names and start no pass that isn't built
unfoldable pub flags_of : Data → Option OptFlags
flags_of d = do
  n ← number_of d
  built ← built_flags n
  named_flags built

-- an array of nodes
unfoldable pub nodes_of : Data → Option (List IR)
nodes_of d = do
  ds ← entries_of d
  each node_of ds

-- an array of expressions
unfoldable pub exprs_of : Data → Option (List AExpr)
exprs_of d = do
  ds ← entries_of d
  each expr_of ds

-- the keys of a document
unfoldable pub document_keys : List (List ℕ)
document_keys = codes "exprs" ∷ codes "flags" ∷ codes "nodes" ∷ codes "root" ∷ codes "shared" ∷ codes "tables" ∷ []

-- the document that a value stands for
unfoldable pub document_of : Data → Option Document
document_of d = do
  o ← object_of document_keys d
  r ← at (codes "root") link_of o
  flags ← get (codes "flags") o
  fs ← flags_of flags
  nodes ← get (codes "nodes") o
  ns ← nodes_of nodes
  exprs ← get (codes "exprs") o
  es ← exprs_of exprs
  shared ← get (codes "shared") o
  s ← unshared_of shared
  ts ← at (codes "tables") (nullable tables_of) o
  Some (record { root = r; lp = ns; ex = es; flags = fs; shared = s; tables = ts })

-- What bytes stand for.
pub data Reading : Type 0 where
  not_json : Reading
  form : Reading
  document : Document → Reading

-- a document, or a fault of form
abbrev pub form_or : Option Document → Reading
form_or None = form
form_or (Some d) = document d

-- the document of a value, or no JSON
abbrev pub json_or : Option Data → Reading
json_or None = not_json
json_or (Some d) = form_or (document_of d)

-- the value that serde_json reads from bytes; bytes that are not UTF-8 have none, nor has a text that `read` refuses
unfoldable pub json_of : List ℕ → Option Data
json_of bytes = if is_utf8 bytes then read bytes else None

-- the document that bytes stand for, or why they stand for none
unfoldable pub doc_of : List ℕ → Reading
doc_of bytes = json_or (json_of bytes)

-- the answer is what the bytes stand for, or memory ran out
abbrev pub IsReading : Result Document ReadError → Reading → Type 0
IsReading (Ok d) reading = reading ≡ document d
IsReading (Err errors.NotJson) reading = reading ≡ not_json
IsReading (Err errors.Form) reading = reading ≡ form
IsReading (Err errors.OutOfMemory) reading = Unit {0}

-- the answer is the value of the bytes, or memory ran out
abbrev pub IsJson : Result Value ReadError → Option Data → Type 0
IsJson (Ok v) value = value ≡ Some (view v)
IsJson (Err errors.NotJson) value = value ≡ None
IsJson (Err errors.Form) value = ⊥
IsJson (Err errors.OutOfMemory) value = Unit {0}
