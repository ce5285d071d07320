-- How expressions are written.
use Rattle.std.proofs.Common.{◌≡◌, ℕ, ◌+◌, ◌≤◌, List, [], ◌∷◌, ◌++◌, map, take, length, Some, refl, ap, ap₂, sym, ◌∙◌, append-nil, length-append}
use Rattle.std.specs.List.{slice_get, flat_map}
use Rattle.std.proofs.lemmas.List.{map-append, take_all}
use Rattle.std.proofs.lemmas.List.Concat.{flat_map-append}
use Rattle.plan_dsl.specs.declared.expr.Expr.{Expr}
use Rattle.plan_dsl.specs.declared.parts.Head.{Head}
use Rattle.plan_dsl.specs.Copies.{written}
use Rattle.plan_dsl.specs.Parts.{children, head_of}
use Rattle.plan_dsl.specs.Walks.{preorder}
use Rattle.plan_expr.proofs.ListLemmas.{take-next, flat_map-next}
use Rattle.plan_dsl.proofs.WalkLemmas.{preorder-is}

map-flat_map : {A B C : Type 0} (g : B → C) (f : A → List B) (xs : List A) → map g (flat_map f xs) ≡ flat_map (λ x. map g (f x)) xs
map-flat_map g f [] = refl
map-flat_map g f (x ∷ xs) = map-append g (f x) (flat_map f xs) ∙ ap (λ ys. map g (f x) ++ ys) (map-flat_map g f xs)

-- what an expression is and how many it is made of
abbrev entry : Expr → Head × ℕ
entry n = (head_of n, length (children n))

-- an expression is written before those that it is made of
written-is : (e : Expr) → written e ≡ entry e ∷ flat_map written (children e)
written-is e = ap (map entry) (preorder-is e) ∙ ap (λ (xs : List (Head × ℕ)). entry e ∷ xs) (map-flat_map entry preorder (children e))

-- parts that are written as the first children are
pub record IsCopied (e : Expr) (i : ℕ) (parts : List Expr) : Type 0 where
  pub many : length parts ≡ length (take i (children e))
  pub same : flat_map written parts ≡ flat_map written (take i (children e))

pub copied_none : (e : Expr) (parts : List Expr) → parts ≡ [] → IsCopied e 0 parts
copied_none e parts is = record { many = ap length is; same = ap (flat_map written) is }

pub copied_next : (e c part : Expr) (i : ℕ) (parts more : List Expr) → IsCopied e i parts → slice_get (children e) i ≡ Some c → written part ≡ written c → more ≡ parts ++ part ∷ [] → IsCopied e (i + 1) more
copied_next e c part i parts more copied there same is = record {
  many = ap length is ∙ length-append parts (part ∷ []) ∙ ap (λ (n : ℕ). n + 1) copied.many ∙ sym (ap length (take-next (children e) i c there) ∙ length-append (take i (children e)) (c ∷ []));
  same = ap (flat_map written) is ∙ flat_map-append written parts (part ∷ []) ∙ ap₂ (λ (xs ys : List (Head × ℕ)). xs ++ ys) copied.same (append-nil (written part) ∙ same) ∙ sym (flat_map-next written (children e) i c there);
}

-- an expression over parts that are written as its children are
pub copied_end : (e copy : Expr) (i : ℕ) (parts : List Expr) → IsCopied e i parts → length (children e) ≤ i → head_of copy ≡ head_of e → children copy ≡ parts → written copy ≡ written e
copied_end e copy i parts copied past head made =
    let all : take i (children e) ≡ children e = take_all i (children e) past in
    let many : length (children copy) ≡ length (children e) = ap length made ∙ copied.many ∙ ap length all in
    let same : flat_map written (children copy) ≡ flat_map written (children e) = ap (flat_map written) made ∙ copied.same ∙ ap (flat_map written) all in
    written-is copy ∙ ap₂ (λ (n : Head × ℕ) (xs : List (Head × ℕ)). n ∷ xs) (ap₂ (λ (h : Head) (n : ℕ). (h, n)) head many) same ∙ sym (written-is e)

pub copied_takes : (e : Expr) (i : ℕ) (parts : List Expr) → IsCopied e i parts → length (children e) ≤ i → length parts ≡ length (children e)
copied_takes e i parts copied past = copied.many ∙ ap length (take_all i (children e) past)
