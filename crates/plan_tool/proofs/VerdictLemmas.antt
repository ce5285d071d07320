-- Bytes settle one status at most, and a call that met no failure ends with it.
use Rattle.std.proofs.Common.{◌≡◌, ◌∙◌, ◌⊎◌, inl, inr, ℕ, List, [], ◌∷◌, None, Some, refl, sym, ap, subst, arith}
use Rattle.plan_core.specs.declared.arena.Node.{Node}
use Rattle.plan_core.specs.declared.error.PolarsError.{PolarsError}
use Rattle.plan_core.specs.Columns.{Columns}
use Rattle.plan_tree.specs.Rose.{levels}
use Rattle.plan_tree.specs.Stands.{Trees, StandsOnce}
use Rattle.plan_expr.specs.declared.aexpr.AExpr.{AExpr}
use Rattle.plan_expr.specs.Operands.{expr_shape}
use Rattle.plan_ir.specs.declared.ir.IR.{IR}
use Rattle.plan_ir.specs.Parts.{plan_shape, roots_in}
use Rattle.plan_ir.specs.Plans.{plans_at}
use Rattle.plan_doc.specs.declared.document.Document.{Document}
use Rattle.plan_doc.specs.Document.{doc_of, document, not_json, form}
use Rattle.plan_stream.specs.Causes.{Rose}
use Rattle.plan_tool.specs.declared.command.Command.{Command}
use Rattle.plan_tool.specs.declared.command.Command.TheVariants as commands
use Rattle.plan_tool.specs.declared.status.Status.{Status}
use Rattle.plan_tool.specs.declared.status.Status.TheVariants.{Done, Usage, NotJson, Form, Refused, Unfit, Limit, ReadFault, WriteFault, OutOfMemory}
use Rattle.plan_tool.specs.Answers.{FitFor, UnfitFor, Refuses, TooDeep, Unfits}
use Rattle.plan_tool.specs.Causes.{Call, Comes, Completes, Follows}
use Rattle.plan_tool.specs.Checked.{IsChecked, IsRefused, IsTooDeep}
use Rattle.plan_tool.specs.Limits.{IsShallow, IsDeep}
use Rattle.plan_tool.specs.Rows.{DontFit, Fit, Given}
use Rattle.plan_tool.specs.Verdicts.{IsGood, Judges, Settles}
use Rattle.plan_tool.proofs.CheckLemmas.{alike}
use Rattle.plan_tool.proofs.CommandLemmas.{one_command}

module _ (lp : List IR) (ex : List AExpr) (root : Node) where
  -- a plan isn't both shallow and deep
  shallow_or_deep : IsShallow lp ex root → IsDeep lp ex root → ⊥
  shallow_or_deep s d =
      let nodes : s.nodes ≡ d.nodes = alike plan_shape lp (root ∷ []) s.nodes d.nodes s.stands.nodes d.stands.nodes in
      let exprs : s.exprs ≡ d.exprs = alike expr_shape ex (roots_in s.nodes) s.exprs d.exprs s.stands.exprs (subst (λ (t : Trees IR). StandsOnce expr_shape ex (roots_in t) d.exprs) (sym nodes) d.stands.exprs) in
      elim d.deep as (λ _. ⊥) [
        | inl a ↦ absurd (omega (arith, a, s.plan, ap levels nodes))
        | inr b ↦ absurd (omega (arith, b, s.expr, ap levels exprs))
      ]

  refused_or_deep : (fault : PolarsError) → IsRefused lp ex root fault → IsTooDeep lp ex root → ⊥
  refused_or_deep fault r d = elim r.first as (λ _. ⊥) [
    | inl a ↦ (let e : Some fault ≡ None = sym a ∙ d.numbers in cc)
    | inr s ↦ shallow_or_deep s d.deep
  ]

  refused_or_checked : (fault : PolarsError) (columns : Columns) → IsRefused lp ex root fault → IsChecked lp ex root columns → ⊥
  refused_or_checked fault columns r c = let both = sym r.typed ∙ c.typed in cc

  deep_or_checked : (columns : Columns) → IsTooDeep lp ex root → IsChecked lp ex root columns → ⊥
  deep_or_checked columns d c = shallow_or_deep c.shallow d.deep

-- tables don't both fit and not
unfit_or_fit : (command : Command) (d : Document) → UnfitFor command d → FitFor command d → ⊥
unfit_or_fit commands.Check d u f = u
unfit_or_fit commands.Optimize d u f = go d.tables u f
  where
    go : (tables : Given) → DontFit tables (plans_at d.lp d.ex (d.root ∷ [])) → Fit tables (plans_at d.lp d.ex (d.root ∷ [])) → ⊥
    go None u f = u
    go (Some ts) u f = u f

module _ (command : Command) (bytes : List ℕ) where
  same_document : (d e : Document) → doc_of bytes ≡ document d → doc_of bytes ≡ document e → d ≡ e
  same_document d e h k = let both : document d ≡ document e = sym h ∙ k in cc

  no_json : (d : Document) → doc_of bytes ≡ document d → doc_of bytes ≡ not_json → ⊥
  no_json d h k = let both : document d ≡ not_json = sym h ∙ k in cc

  no_form : (d : Document) → doc_of bytes ≡ document d → doc_of bytes ≡ form → ⊥
  no_form d h k = let both : document d ≡ form = sym h ∙ k in cc

  no_json_form : doc_of bytes ≡ not_json → doc_of bytes ≡ form → ⊥
  no_json_form h k = let both : not_json ≡ form = sym h ∙ k in cc

  refuses_or_good : ((fault : PolarsError) × Refuses bytes fault) → IsGood command bytes → ⊥
  refuses_or_good r g =
      let same : r.1.asked ≡ g.asked = same_document r.1.asked g.asked r.1.read g.read in
      refused_or_checked g.asked.lp g.asked.ex g.asked.root r.0 g.columns (subst (λ (d : Document). IsRefused d.lp d.ex d.root r.0) same r.1.refused) g.checked

  refuses_or_unfit : ((fault : PolarsError) × Refuses bytes fault) → Unfits command bytes → ⊥
  refuses_or_unfit r u =
      let same : r.1.asked ≡ u.asked = same_document r.1.asked u.asked r.1.read u.read in
      refused_or_checked u.asked.lp u.asked.ex u.asked.root r.0 u.unfit.columns (subst (λ (d : Document). IsRefused d.lp d.ex d.root r.0) same r.1.refused) u.unfit.checked

  refuses_or_deep : ((fault : PolarsError) × Refuses bytes fault) → TooDeep bytes → ⊥
  refuses_or_deep r t =
      let same : r.1.asked ≡ t.asked = same_document r.1.asked t.asked r.1.read t.read in
      refused_or_deep t.asked.lp t.asked.ex t.asked.root r.0 (subst (λ (d : Document). IsRefused d.lp d.ex d.root r.0) same r.1.refused) t.deep

  deep_or_good : TooDeep bytes → IsGood command bytes → ⊥
  deep_or_good t g =
      let same : t.asked ≡ g.asked = same_document t.asked g.asked t.read g.read in
      deep_or_checked g.asked.lp g.asked.ex g.asked.root g.columns (subst (λ (d : Document). IsTooDeep d.lp d.ex d.root) same t.deep) g.checked

  deep_or_unfit : TooDeep bytes → Unfits command bytes → ⊥
  deep_or_unfit t u =
      let same : t.asked ≡ u.asked = same_document t.asked u.asked t.read u.read in
      deep_or_checked u.asked.lp u.asked.ex u.asked.root u.unfit.columns (subst (λ (d : Document). IsTooDeep d.lp d.ex d.root) same t.deep) u.unfit.checked

  unfit_or_good : Unfits command bytes → IsGood command bytes → ⊥
  unfit_or_good u g =
      let same : u.asked ≡ g.asked = same_document u.asked g.asked u.read g.read in
      unfit_or_fit command g.asked (subst (UnfitFor command) same u.unfit.unfit) g.fit

  -- what the bytes are leaves one status open
  one_judged : (v w : Status) → Judges command bytes v → Judges command bytes w → v ≡ w
  one_judged Done Done h k = refl
  one_judged Done NotJson h k = absurd (no_json h.asked h.read k)
  one_judged Done Form h k = absurd (no_form h.asked h.read k)
  one_judged Done Refused h k = absurd (refuses_or_good k h)
  one_judged Done Unfit h k = absurd (unfit_or_good k h)
  one_judged Done Limit h k = absurd (deep_or_good k h)
  one_judged Done Usage h k = absurd k
  one_judged Done ReadFault h k = absurd k
  one_judged Done WriteFault h k = absurd k
  one_judged Done OutOfMemory h k = absurd k
  one_judged NotJson Done h k = absurd (no_json k.asked k.read h)
  one_judged NotJson NotJson h k = refl
  one_judged NotJson Form h k = absurd (no_json_form h k)
  one_judged NotJson Refused h k = absurd (no_json k.1.asked k.1.read h)
  one_judged NotJson Unfit h k = absurd (no_json k.asked k.read h)
  one_judged NotJson Limit h k = absurd (no_json k.asked k.read h)
  one_judged NotJson Usage h k = absurd k
  one_judged NotJson ReadFault h k = absurd k
  one_judged NotJson WriteFault h k = absurd k
  one_judged NotJson OutOfMemory h k = absurd k
  one_judged Form Done h k = absurd (no_form k.asked k.read h)
  one_judged Form NotJson h k = absurd (no_json_form k h)
  one_judged Form Form h k = refl
  one_judged Form Refused h k = absurd (no_form k.1.asked k.1.read h)
  one_judged Form Unfit h k = absurd (no_form k.asked k.read h)
  one_judged Form Limit h k = absurd (no_form k.asked k.read h)
  one_judged Form Usage h k = absurd k
  one_judged Form ReadFault h k = absurd k
  one_judged Form WriteFault h k = absurd k
  one_judged Form OutOfMemory h k = absurd k
  one_judged Refused Done h k = absurd (refuses_or_good h k)
  one_judged Refused NotJson h k = absurd (no_json h.1.asked h.1.read k)
  one_judged Refused Form h k = absurd (no_form h.1.asked h.1.read k)
  one_judged Refused Refused h k = refl
  one_judged Refused Unfit h k = absurd (refuses_or_unfit h k)
  one_judged Refused Limit h k = absurd (refuses_or_deep h k)
  one_judged Refused Usage h k = absurd k
  one_judged Refused ReadFault h k = absurd k
  one_judged Refused WriteFault h k = absurd k
  one_judged Refused OutOfMemory h k = absurd k
  one_judged Unfit Done h k = absurd (unfit_or_good h k)
  one_judged Unfit NotJson h k = absurd (no_json h.asked h.read k)
  one_judged Unfit Form h k = absurd (no_form h.asked h.read k)
  one_judged Unfit Refused h k = absurd (refuses_or_unfit k h)
  one_judged Unfit Unfit h k = refl
  one_judged Unfit Limit h k = absurd (deep_or_unfit k h)
  one_judged Unfit Usage h k = absurd k
  one_judged Unfit ReadFault h k = absurd k
  one_judged Unfit WriteFault h k = absurd k
  one_judged Unfit OutOfMemory h k = absurd k
  one_judged Limit Done h k = absurd (deep_or_good h k)
  one_judged Limit NotJson h k = absurd (no_json h.asked h.read k)
  one_judged Limit Form h k = absurd (no_form h.asked h.read k)
  one_judged Limit Refused h k = absurd (refuses_or_deep k h)
  one_judged Limit Unfit h k = absurd (deep_or_unfit h k)
  one_judged Limit Limit h k = refl
  one_judged Limit Usage h k = absurd k
  one_judged Limit ReadFault h k = absurd k
  one_judged Limit WriteFault h k = absurd k
  one_judged Limit OutOfMemory h k = absurd k
  one_judged Usage w h k = absurd h
  one_judged ReadFault w h k = absurd h
  one_judged WriteFault w h k = absurd h
  one_judged OutOfMemory w h k = absurd h

  -- the bytes settle one status at most
  one_status : (limit : ℕ) (v w : Status) → Settles limit command bytes v → Settles limit command bytes w → v ≡ w
  one_status limit v w (inl a) (inl b) = a.1 ∙ sym b.1
  one_status limit v w (inl a) (inr b) = absurd (omega (arith, a.0, b.0))
  one_status limit v w (inr a) (inl b) = absurd (omega (arith, a.0, b.0))
  one_status limit v w (inr a) (inr b) = one_judged v w a.1 b.1

  -- where no count of faults rose, the bytes settle the status that follows, or memory ran out
  caused : (limit : ℕ) (c : Call) (result : Status) → c.given ≡ Some bytes → (Rose c.read_faults c.read_faults_now → ⊥) → (Rose c.write_faults c.write_faults_now → ⊥) → Follows limit command c result → Settles limit command bytes result ⊎ (result ≡ OutOfMemory)
  caused limit c Done given read write f = let w = rw given at f.2 in inl (inr (w.small, record { asked = w.answers.asked; read = w.answers.read; columns = w.answers.answers.columns; checked = w.answers.answers.checked; fit = w.answers.answers.fit }))
  caused limit c Usage given read write f = absurd f
  caused limit c NotJson given read write f = inl (rw given at f.2)
  caused limit c Form given read write f = inl (rw given at f.2)
  caused limit c Refused given read write f = let t = rw given at f.2 in inl (inr (t.small, (t.fault, t.refuses)))
  caused limit c Unfit given read write f = inl (rw given at f.2)
  caused limit c Limit given read write f = inl (rw given at f.2)
  caused limit c ReadFault given read write f = absurd (read f.1)
  caused limit c WriteFault given read write f = absurd (write f.0)
  caused limit c OutOfMemory given read write f = inr refl

-- what comes is complete
pub completes : (limit : ℕ) (words : List (List ℕ)) (c : Call) (result : Status) → Comes limit words c result → Completes limit words c result
completes limit words c result (inl a) = record {
  usage = λ u. a.1;
  settled = λ command bytes settled asks given read write s. absurd (a.0 command asks);
}
completes limit words c result (inr b) = record {
  usage = λ u. absurd (u b.0 b.1);
  settled = λ command bytes settled asks given read write s.
      let same : b.0 ≡ command = one_command words b.0 command b.1 asks in
      let f : Follows limit command c result = subst (λ (x : Command). Follows limit x c result) same b.2 in
      elim (caused command bytes limit c result given read write f) as (λ _. (result ≡ settled) ⊎ (result ≡ OutOfMemory)) [
        | inl h ↦ inl (one_status command bytes limit result settled h s)
        | inr o ↦ inr o
      ];
}
