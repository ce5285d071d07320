-- JSON values stand for the parts of the plan of a document.
use Rattle.std.proofs.Common.{◌≡◌, Bool, true, false, cond, List, ℕ, Option, Some, None, refl}
use Rattle.std.specs.Prelude.{codes}
use Rattle.std.specs.Str.{is_utf8}
use Rattle.serde_json.specs.Data.{Data}
use Rattle.serde_json.specs.Find.{get}
use Rattle.serde_json.specs.Read.{read}
use Rattle.plan_doc_parts.specs.Parts.{nullable, link_of}
use Rattle.plan_doc_parts.specs.Members.{object_of, at}
use Rattle.plan_doc.specs.declared.document.Document.{Document}
use Rattle.plan_doc.specs.Built.{unshared_of}
use Rattle.plan_doc.specs.Document.{flags_of, nodes_of, exprs_of, document_keys, document_of, document, form_or, json_or, json_of, doc_of}
use Rattle.plan_doc.specs.Tables.{tables_of}
use Rattle.plan_round_trip.specs.Back.{AreSaid}
use Rattle.plan_round_trip.proofs.Gives.{gives11}
use Rattle.plan_round_trip.proofs.Lists.{IsCanonical}
use Rattle.plan_round_trip.proofs.Plans.{nodes_said, exprs_said, root_said}
use Rattle.plan_round_trip.proofs.Reading.{read_canonical}
use Rattle.plan_round_trip.proofs.Steps.{object_canonical, under_canonical}

-- JSON values stand for the parts of its plan
abbrev IsSaidWhole : Document → Type 0
IsSaidWhole d = AreSaid d.lp d.ex d.root

document_said : (d : Data) (doc : Document) → IsCanonical d → document_of d ≡ Some doc → IsSaidWhole doc
unfolding document_of
document_said d doc c e =
    gives11 (object_of document_keys d) (λ o. at (codes "root") link_of o) (λ o r. get (codes "flags") o) (λ o r flags. flags_of flags) (λ o r flags fs. get (codes "nodes") o) (λ o r flags fs nodes. nodes_of nodes) (λ o r flags fs nodes ns. get (codes "exprs") o) (λ o r flags fs nodes ns exprs. exprs_of exprs) (λ o r flags fs nodes ns exprs es. get (codes "shared") o) (λ o r flags fs nodes ns exprs es shared. unshared_of shared) (λ o r flags fs nodes ns exprs es shared s. at (codes "tables") (nullable tables_of) o)
    (λ o r flags fs nodes ns exprs es shared s ts. record { root = r; lp = ns; ex = es; flags = fs; shared = s; tables = ts }) doc e IsSaidWhole
    (λ o r flags fs nodes ns exprs es shared s ts eo er eflags efs enodes ens eexprs ees eshared is_s ets.
    let k = object_canonical _ d o c eo in
    record {
      nodes = nodes_said nodes ns (under_canonical (codes "nodes") o nodes k enodes) ens;
      exprs = exprs_said exprs es (under_canonical (codes "exprs") o exprs k eexprs) ees;
      root = root_said o r k er;
    })

-- the document of a text
pub text_said : (bytes : List ℕ) (doc : Document) → doc_of bytes ≡ document doc → IsSaidWhole doc
unfolding doc_of json_of
text_said bytes doc e = by_test (is_utf8 bytes) e
  where
    formed : (x : Option Document) → form_or x ≡ document doc → x ≡ Some doc
    formed None q = absurd cc
    formed (Some y) q = cc

    valued : (o : Option Data) → read bytes ≡ o → json_or o ≡ document doc → IsSaidWhole doc
    valued None r q = absurd cc
    valued (Some d) r q = document_said d doc (read_canonical bytes d r) (formed (document_of d) q)

    by_test : (b : Bool) → json_or (cond b (read bytes) None) ≡ document doc → IsSaidWhole doc
    by_test true q = valued (read bytes) refl q
    by_test false q = absurd cc
