-- What the program says of bytes, from what it says of their document; and what it leaves in the sink.
use Rattle.std.proofs.Common.{◌≡◌, ℕ, ◌≤◌, List, length, Option, Some, None, Result, Ok, Err, String, sym, ◌∙◌, subst, inl, inr}
use Rattle.std.specs.Prelude.{IfSome}
use Rattle.std.specs.declared.alloc.Global.{Global}
use Rattle.std.specs.Io.KnownBytes.{Appends}
use Rattle.plan_core.specs.declared.error.PolarsError.{PolarsError}
use Rattle.plan_doc.specs.declared.document.Document.{Document}
use Rattle.plan_doc.specs.Document.{doc_of, document}
use Rattle.plan_text.specs.Written.{error_text}
use Rattle.plan_tool.specs.declared.stop.Stop.{Stop}
use Rattle.plan_tool.specs.declared.stop.Stop.TheVariants.{NotJson, Form, Limit, Unfit, Fault, OutOfMemory}
use Rattle.plan_tool.specs.declared.status.Status.{Status}
use Rattle.plan_tool.specs.declared.status.Status.TheVariants as answers
use Rattle.plan_ir.specs.Plans.{Plan}
use Rattle.plan_meaning.specs.Relating.{Refines}
use Rattle.plan_meaning.specs.Contents.{Fits}
use Rattle.plan_table.specs.declared.table.Table.{Table}
use Rattle.plan_value.specs.Shown.{frame_of}
use Rattle.plan_fit.specs.Sources.{contents_of}
use Rattle.plan_tool.specs.Rows.{AreRows, Given}
use Rattle.plan_tool.specs.declared.command.Command.{Command}
use Rattle.plan_tool.specs.Answers.{AnswersBytes, Refuses, SaysOf, SaysOfDocument}
use Rattle.plan_top.specs.Chains.{Boxes}
use Rattle.plan_tool.specs.Causes.{Call, Follows, IsReadWhole, Finishes, Written, Told, Cut}

-- what is said of a document is said of its bytes
pub said : (boxes : Boxes) (command : Command) (d : Document) (bytes : List ℕ) (r : Result (String Global) Stop) → doc_of bytes ≡ document d → SaysOfDocument boxes command r d → SaysOf boxes command r bytes
said boxes command d bytes (Ok text) is a = record { asked = d; read = is; answers = a }
said boxes command d bytes (Err NotJson) is a = absurd a
said boxes command d bytes (Err Form) is a = absurd a
said boxes command d bytes (Err Limit) is a = record { asked = d; read = is; deep = a }
said boxes command d bytes (Err Unfit) is a = record { asked = d; read = is; unfit = a }
said boxes command d bytes (Err (Fault fault)) is a = record { asked = d; read = is; refused = a }
said boxes command d bytes (Err OutOfMemory) is a = tt

-- the text of a fault was written, or a front of it
pub told : (limit : ℕ) (command : Command) (c : Call) (bytes text : List ℕ) (fault : PolarsError) (result : Status) → IsReadWhole c → IfSome c.given (λ read. bytes ≡ read) → length bytes ≤ limit → Refuses bytes fault → text ≡ error_text fault → Finishes text c.held c.holds c.clean c.write_faults c.write_faults_now answers.Refused result → Follows limit command c result
told limit command c bytes text fault result end whole small refuses is (inl f) =
    subst (Follows limit command c) (sym f.is) ((f.flushed, f.unfailed), end, some c.given whole)
  where
    some : (o : Option (List ℕ)) → IfSome o (λ read. bytes ≡ read) → IfSome o (Told limit c)
    some None h = tt
    some (Some read) h = subst (Told limit c) h (record { small = small; fault = fault; refuses = refuses; written = subst (Appends c.held c.holds) is f.written })
told limit command c bytes text fault result end whole small refuses is (inr b) =
    subst (Follows limit command c) (sym b.is) (b.cause, end, some c.given whole)
  where
    some : (o : Option (List ℕ)) → IfSome o (λ read. bytes ≡ read) → IfSome o (Cut limit command c)
    some None h = tt
    some (Some read) h = subst (Cut limit command c) h (record { small = small; text = text; says = inr (fault, refuses, is); written = b.written })

-- the text of an answer was written, or a front of it
pub answered_bytes : (limit : ℕ) (command : Command) (c : Call) (bytes text : List ℕ) (result : Status) → IsReadWhole c → IfSome c.given (λ read. bytes ≡ read) → length bytes ≤ limit → AnswersBytes c.boxes command bytes text → Finishes text c.held c.holds c.clean c.write_faults c.write_faults_now answers.Done result → Follows limit command c result
answered_bytes limit command c bytes text result end whole small answers (inl f) =
    subst (Follows limit command c) (sym f.is) ((f.flushed, f.unfailed), end, some c.given whole)
  where
    some : (o : Option (List ℕ)) → IfSome o (λ read. bytes ≡ read) → IfSome o (Written limit command c)
    some None h = tt
    some (Some read) h = subst (Written limit command c) h (record { small = small; text = text; answers = answers; written = f.written })
answered_bytes limit command c bytes text result end whole small answers (inr b) =
    subst (Follows limit command c) (sym b.is) (b.cause, end, some c.given whole)
  where
    some : (o : Option (List ℕ)) → IfSome o (λ read. bytes ≡ read) → IfSome o (Cut limit command c)
    some None h = tt
    some (Some read) h = subst (Cut limit command c) h (record { small = small; text = text; says = inl answers; written = b.written })

-- tables that fit a plan fit what refines it
pub fits_answered : (tables : Given) (q p : Plan) → Refines q p → IfSome tables (λ ts. Fits (contents_of ts) p) → IfSome tables (λ ts. Fits (contents_of ts) q)
fits_answered None q p r f = tt
fits_answered (Some ts) q p r f = r.fits (contents_of ts) f

-- rows that a plan may give are rows that each plan which it refines may give
pub rows_given : (tables : Given) (q p : Plan) (rows : Option Table) → Refines q p → IfSome tables (λ ts. Fits (contents_of ts) p) → AreRows tables q rows → AreRows tables p rows
rows_given None q p None r f a = tt
rows_given None q p (Some t) r f a = a
rows_given (Some ts) q p None r f a = a
rows_given (Some ts) q p (Some t) r f a = record { may = r.may (contents_of ts) (frame_of t) f a.may; types = a.types ∙ r.schema; rows = a.rows }
