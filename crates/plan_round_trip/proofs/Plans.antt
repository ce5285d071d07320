-- Plans are read as they are written, and JSON values stand for the parts of a plan that is read.
use Rattle.std.proofs.Common.{◌≡◌, List, [], ◌∷◌, Option, Some, refl, subst}
use Rattle.std.specs.Prelude.{codes}
use Rattle.std.specs.List.{AllByRecursion}
use Rattle.serde_json.specs.Data.{Data}
use Rattle.serde_json.specs.Find.{get}
use Rattle.plan_core.specs.declared.arena.Node.{Node}
use Rattle.plan_expr.specs.declared.aexpr.AExpr.{AExpr}
use Rattle.plan_ir.specs.declared.ir.IR.{IR}
use Rattle.plan_doc_parts.specs.Parts.{◌>>=◌, each, entries_of, link_of}
use Rattle.plan_doc_parts.specs.Members.{object_of, at}
use Rattle.plan_doc_parts.proofs.EntryLemmas.{bind_some, some_is}
use Rattle.plan_doc.specs.Exprs.{expr_of}
use Rattle.plan_doc_nodes.specs.Nodes.{node_of}
use Rattle.plan_doc.specs.Document.{nodes_of, exprs_of}
use Rattle.plan_text_pieces.specs.Values.{list_data}
use Rattle.plan_text.specs.Exprs.{expr_data}
use Rattle.plan_text.specs.Nodes.{node_data}
use Rattle.plan_text.specs.Written.{plan_data}
use Rattle.plan_round_trip.specs.Back.{plan_of, IsSaid, AreSaid}
use Rattle.plan_round_trip.proofs.Gives.{gives2, gives6}
use Rattle.plan_round_trip.proofs.Steps.{Again, Back, object_canonical, under_canonical}
use Rattle.plan_round_trip.proofs.Lists.{IsCanonical, entries_canonical, list_read}
use Rattle.plan_round_trip.proofs.Parts.{link_back}
use Rattle.plan_round_trip.proofs.Exprs.{expr_told, expr_read}
use Rattle.plan_round_trip.proofs.Nodes.{node_told, node_read}

pub node_back : Back node_of node_data
node_back = record { again = λ d x c e. node_read x (node_told d x c e) }

pub expr_back : Back expr_of expr_data
expr_back = record { again = λ d x c e. expr_read x (expr_told d x c e) }

-- what JSON values stand for is read again of what is written for it
said_again : {A : Type 0} {reads : Data → Option A} {writes : A → Data} (b : Back reads writes) (x : A) → IsSaid reads x → Again reads writes x
said_again b x s = b.again s.value x s.canonical s.stands

all_said_again : {A : Type 0} {reads : Data → Option A} {writes : A → Data} (b : Back reads writes) (xs : List A) → AllByRecursion (IsSaid reads) xs → AllByRecursion (Again reads writes) xs
all_said_again b [] a = tt
all_said_again b (x ∷ xs) a = (said_again b x a.0, all_said_again b xs a.1)

nodes_again : (lp : List IR) → AllByRecursion (IsSaid node_of) lp → nodes_of (list_data node_data lp) ≡ Some lp
unfolding nodes_of
nodes_again lp a = list_read node_of node_data lp (all_said_again node_back lp a)

exprs_again : (ex : List AExpr) → AllByRecursion (IsSaid expr_of) ex → exprs_of (list_data expr_data ex) ≡ Some ex
unfolding exprs_of
exprs_again ex a = list_read expr_of expr_data ex (all_said_again expr_back ex a)

-- a plan whose parts JSON values stand for
pub plan_again : (lp : List IR) (ex : List AExpr) (root : Node) → AreSaid lp ex root → plan_of (plan_data lp ex root) ≡ Some (lp, ex, root)
unfolding plan_of object_of at plan_data
plan_again lp ex root a = rw (nodes_again lp a.nodes, exprs_again ex a.exprs, said_again link_back root a.root) refl

-- ---- what is read is said

each_said : {A : Type 0} (reads : Data → Option A) (ds : List Data) (xs : List A) → AllByRecursion IsCanonical ds → each reads ds ≡ Some xs → AllByRecursion (IsSaid reads) xs
each_said reads [] xs c e = subst (AllByRecursion (IsSaid reads)) (some_is [] xs e) tt
each_said reads (d ∷ ds) xs c e =
    gives2 (reads d) (λ x. each reads ds) (λ x ys. x ∷ ys) xs e (AllByRecursion (IsSaid reads))
    (λ x ys ex eys. (record { value = d; canonical = c.0; stands = ex }, each_said reads ds ys c.1 eys))

list_said : {A : Type 0} (reads : Data → Option A) (d : Data) (xs : List A) → IsCanonical d → (entries_of d >>= λ ds. each reads ds) ≡ Some xs → AllByRecursion (IsSaid reads) xs
list_said reads d xs c e =
    let ds = bind_some (entries_of d) (λ ds. each reads ds) xs e in
    each_said reads ds.0 xs (entries_canonical d ds.0 c ds.1) ds.2

pub nodes_said : (d : Data) (lp : List IR) → IsCanonical d → nodes_of d ≡ Some lp → AllByRecursion (IsSaid node_of) lp
unfolding nodes_of
nodes_said d lp c e = list_said node_of d lp c e

pub exprs_said : (d : Data) (ex : List AExpr) → IsCanonical d → exprs_of d ≡ Some ex → AllByRecursion (IsSaid expr_of) ex
unfolding exprs_of
exprs_said d ex c e = list_said expr_of d ex c e

pub root_said : (o : Data) (root : Node) → IsCanonical o → at (codes "root") link_of o ≡ Some root → IsSaid link_of root
unfolding at
root_said o root c e =
    let d = bind_some (get (codes "root") o) link_of root e in
    record { value = d.0; canonical = under_canonical (codes "root") o d.0 c d.1; stands = d.2 }

abbrev Plan : Type 0
Plan = List IR × List AExpr × Node

-- a plan that a value stands for
pub plan_said : (d : Data) (lp : List IR) (ex : List AExpr) (root : Node) → IsCanonical d → plan_of d ≡ Some (lp, ex, root) → AreSaid lp ex root
unfolding plan_of
plan_said d lp ex root c e =
    gives6 (object_of (codes "exprs" ∷ codes "nodes" ∷ codes "root" ∷ []) d) (λ o. get (codes "nodes") o) (λ o nodes. nodes_of nodes) (λ o nodes ns. get (codes "exprs") o) (λ o nodes ns exprs. exprs_of exprs) (λ o nodes ns exprs es. at (codes "root") link_of o) (λ o nodes ns exprs es r. (ns, es, r)) (lp, ex, root) e (λ (p : Plan). AreSaid p.0 p.1 p.2)
    (λ o nodes ns exprs es r eo enodes ens eexprs ees er.
    let k = object_canonical _ d o c eo in
    record {
      nodes = nodes_said nodes ns (under_canonical (codes "nodes") o nodes k enodes) ens;
      exprs = exprs_said exprs es (under_canonical (codes "exprs") o exprs k eexprs) ees;
      root = root_said o r k er;
    })
