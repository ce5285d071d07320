-- What a copy that is numbered in walk order has: it is a plan, and its entries in order are its nodes in walk order.
use Rattle.std.proofs.Common.{◌≡◌, ℕ, ◌+◌, List, [], ◌∷◌, ◌++◌, length, Some, refl, sym, ap, ap₂, ◌∙◌, arith, append_assoc, length-append}
use Rattle.std.specs.List.{cons_option, range_with_len, slice_get}
use Rattle.plan_core.specs.declared.arena.Node.{Node}
use Rattle.plan_tree.specs.Rose.{labels, items}
use Rattle.plan_tree.specs.Stands.{Shape, Trees, numbers, Stands}
use Rattle.plan_ir.specs.declared.copy.PlanCopy.{PlanCopy}
use Rattle.plan_expr.specs.declared.aexpr.AExpr.{AExpr}
use Rattle.plan_ir.specs.declared.ir.IR.{IR}
use Rattle.plan_ir.specs.Copies.{IsRenumbered}
use Rattle.plan_ir.specs.Moved.{entries_at}
use Rattle.plan_expr.specs.Operands.{expr_shape}
use Rattle.plan_ir.specs.Parts.{plan_shape, roots_in, IsPlan}
use Rattle.plan_ir.proofs.EntryLemmas.{entries_at-labels}

module _ {P : Type 0} where
  at_length : (before after : List P) (p : P) → slice_get (before ++ p ∷ after) (length before) ≡ Some p
  at_length [] after p = refl
  at_length (x ∷ before) after p = at_length before after p

  -- all the numbers from some entry on have all the entries from there on
  entries_at-rest : (before rest : List P) (ns : List Node) → numbers ns ≡ range_with_len (length before) (length rest) → entries_at (before ++ rest) ns ≡ rest
  entries_at-rest before [] [] e = refl
  entries_at-rest before [] (n ∷ ns) e = cc
  entries_at-rest before (p ∷ rest) [] e = cc
  entries_at-rest before (p ∷ rest) (n ∷ ns) e =
      let first : n.0 ≡ length before = cc in
      let others : numbers ns ≡ range_with_len (length before + 1) (length rest) = cc in
      let longer : length before + 1 ≡ length (before ++ p ∷ []) = omega (arith, length-append before (p ∷ [])) in
      ap₂ cons_option
      (ap (slice_get (before ++ p ∷ rest)) first ∙ at_length before rest p)
      (ap (λ (l : List P). entries_at l ns) (sym (append_assoc before (p ∷ []) rest))
      ∙ entries_at-rest (before ++ p ∷ []) rest ns (others ∙ ap (λ (k : ℕ). range_with_len k (length rest)) longer))

  -- trees that are numbered in walk order, and reach all entries, have the entries in order
  items-in_order : (S : Shape P) (lp : List P) (ns : List Node) (f : Trees P) → Stands S lp ns f → numbers (labels f) ≡ range_with_len 0 (length lp) → items f ≡ lp
  items-in_order S lp ns f s e = sym (entries_at-labels S lp ns f s) ∙ entries_at-rest [] lp (labels f) e

module _ (lp : List IR) (ex : List AExpr) (root : Node) (copy : PlanCopy) (h : IsRenumbered lp ex root copy) where
  -- the copy is a plan
  pub renumbered-plan : IsPlan copy.lp copy.ex copy.root
  renumbered-plan = record { nodes = h.nodes; exprs = h.exprs; stands = h.stands }

  -- its nodes in walk order
  pub renumbered-nodes : items h.nodes ≡ copy.lp
  renumbered-nodes = items-in_order plan_shape copy.lp (copy.root ∷ []) h.nodes h.stands.nodes.stands h.nodes_in_order

  -- the expressions of its nodes in walk order
  pub renumbered-exprs : items h.exprs ≡ copy.ex
  renumbered-exprs = items-in_order expr_shape copy.ex (roots_in h.nodes) h.exprs h.stands.exprs.stands h.exprs_in_order
