-- What a function does that is called on each expression after those that it is made of.
use Rattle.std.specs.Prelude.{◌≡◌, ◌⊎◌, List, [], ◌∷◌}
use Rattle.plan_core.specs.declared.error.PolarsError.{PolarsError}
use Rattle.plan_core.specs.declared.error.PolarsError.TheVariants.{OutOfMemory}
use Rattle.plan_dsl.specs.declared.expr.Expr.{Expr}
use Rattle.plan_dsl.specs.Parts.{children, head_of}

-- the expression with other children
pub record IsRebuilt (e : Expr) (parts : List Expr) (node : Expr) : Type 0 where
  pub head : head_of node ≡ head_of e
  pub made_of : children node ≡ parts

module _ {F : Type 0} (Answers : F → Expr → Expr → F → Type 0) where
  -- from one state to another, the function's answers for expressions: for each one, after those for its children, what
  -- it answers for the expression with these as children
  pub data Maps : F → List Expr → List Expr → F → Type 0 where
    none : {f : F} → Maps f [] [] f
    next : {f g h k : F} {e node answer : Expr} {parts es answers : List Expr} → Maps f (children e) parts g → IsRebuilt e parts node → Answers g node answer h → Maps h es answers k → Maps f (e ∷ es) (answer ∷ answers) k

  -- from one state to another, the function's answers for some of what is below expressions and for some of these, from the first
  -- on: it refuses none of them
  pub data MapsSome : F → List Expr → F → Type 0 where
    no_more : {f : F} {es : List Expr} → MapsSome f es f
    some_below : {f g : F} {e : Expr} {es : List Expr} → MapsSome f (children e) g → MapsSome f (e ∷ es) g
    one_more : {f g h : F} {e answer : Expr} {es : List Expr} → Maps f (e ∷ []) (answer ∷ []) g → MapsSome g es h → MapsSome f (e ∷ es) h

module _ {F : Type 0} (Answers : F → Expr → Expr → F → Type 0) (Refuses : F → Expr → PolarsError → F → Type 0) where
  -- from one state to another, the function answers until it refuses: for an expression, below one, or for a later one
  pub data MapsUntil : F → List Expr → PolarsError → F → Type 0 where
    here : {f g h : F} {e node : Expr} {parts es : List Expr} {fault : PolarsError} → Maps Answers f (children e) parts g → IsRebuilt e parts node → Refuses g node fault h → MapsUntil f (e ∷ es) fault h
    below : {f g : F} {e : Expr} {es : List Expr} {fault : PolarsError} → MapsUntil f (children e) fault g → MapsUntil f (e ∷ es) fault g
    later : {f g h : F} {e answer : Expr} {es : List Expr} {fault : PolarsError} → Maps Answers f (e ∷ []) (answer ∷ []) g → MapsUntil g es fault h → MapsUntil f (e ∷ es) fault h

  -- why the mapping stops: memory is short, and the function refused nothing before, or the function refuses
  abbrev pub StopsAt : F → List Expr → PolarsError → F → Type 0
  StopsAt f es fault g = ((fault ≡ OutOfMemory) × MapsSome Answers f es g) ⊎ MapsUntil f es fault g
