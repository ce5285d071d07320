-- What two additions make of a frame: at each name stands, after the upper one's expressions moved, what stood there before.
use Rattle.std.proofs.Common.{◌≡◌, ◌∙◌, ℕ, Bool, true, false, cond, List, [], ◌∷◌, Option, Some, refl, sym, ap}
use Rattle.std.specs.Str.{bytes_eq}
use Rattle.plan_core.specs.Names.{has, AreDistinct}
use Rattle.plan_expr.specs.Exprs.{Named}
use Rattle.plan_expr.specs.Leaves.{Name, leaves}
use Rattle.plan_frame.specs.ExprLists.{out_names}
use Rattle.plan_frame.specs.Values.{Value}
use Rattle.plan_frame.specs.Frames.{Agree, Column, Frame, found, with_column, with_columns}
use Rattle.plan_frame.specs.Meaning.{filled, val}
use Rattle.plan_frame.specs.Made.{made, made_columns}
use Rattle.plan_frame.proofs.Depends.{val_depends}
use Rattle.plan_frame.proofs.MadeColumns.{found-with_column}
use Rattle.plan_frame.proofs.NameSets.{named, distinct_cons}
use Rattle.plan_collapse_laws.specs.Staying.{HoldsStaying, out, IsOne}
use Rattle.plan_collapse_laws.specs.Meeting.{named_in}
use Rattle.plan_collapse_laws.proofs.NamedExprs.{none_named}
use Rattle.plan_collapse_laws.proofs.PairColumns.{look_at, core, filter_distinct, named_one, once_sunk, read_same, stayed_of, sunk_of, unmade_below}

-- the values that an expression makes over a frame
abbrev pub values_made : ℕ → Frame → Named → List Value
values_made h g e = filled h (val e.expr g)

-- what stands at a name in what distinct expressions make
pub found-made : (h : ℕ) (g : Frame) (base : List Column) (es : List Named) (b : Name) → AreDistinct (out_names es) → found (with_columns base (made_columns h g es)) b ≡ look_at (values_made h g) (named_in es b) (found base b)
found-made h g base [] b d = refl
found-made h g base (e ∷ es) b d =
    let p = distinct_cons (out e) (out_names es) d in
    found-made h g (with_column base (record { name = out e; values = values_made h g e })) es b p.1
    ∙ ap (look_at (values_made h g) (named_in es b)) (found-with_column base (record { name = out e; values = values_made h g e }) b)
    ∙ at (bytes_eq b (out e)) refl p.0
  where
    at : (t : Bool) → bytes_eq b (out e) ≡ t → has (out_names es) (out e) ≡ false → look_at (values_made h g) (named_in es b) (cond t (Some (values_made h g e)) (found base b)) ≡ look_at (values_made h g) (cond t (Some e) (named_in es b)) (found base b)
    at true q n = ap (λ (o : Option Named). look_at (values_made h g) o (Some (values_made h g e))) (none_named es b (ap (has (out_names es)) (named b (out e) q) ∙ n))
    at false q n = refl

module _ (es ls : List Named) (stay : Named → Bool) (f : Frame) where
  -- the frame below the upper addition, and what both made
  abbrev pub was_lower : Frame
  was_lower = made f.height f.columns ls f

  abbrev pub was : Frame
  was = made f.height (made f.height f.columns ls f).columns es (made f.height f.columns ls f)

  -- the same after the move
  abbrev pub is_lower : Frame
  is_lower = made f.height f.columns (sunk_of es ls stay) f

  abbrev pub now : Frame
  now = made f.height (made f.height f.columns (sunk_of es ls stay) f).columns (stayed_of es ls stay) (made f.height f.columns (sunk_of es ls stay) f)

  module _ (once : AreDistinct (out_names es)) (once_lower : AreDistinct (out_names ls)) (h : HoldsStaying es (out_names ls) stay) where
    -- an expression that stays reads the same
    stay_agrees : (d : Named) → IsOne d es → stay d ≡ true → Agree (leaves d.expr) is_lower was_lower
    stay_agrees d i s = record {
      height = refl;
      same = λ a k.
          found-made f.height f f.columns (sunk_of es ls stay) a (once_sunk es ls stay once once_lower)
          ∙ ap (λ (o : Option Named). look_at (values_made f.height f) o (found f.columns a)) (read_same es ls stay once once_lower h d a i s k)
          ∙ sym (found-made f.height f f.columns ls a once_lower);
    }

    -- and so does one that doesn't, over the frame below both
    sunk_agrees : (d : Named) → IsOne d es → stay d ≡ false → Agree (leaves d.expr) f was_lower
    sunk_agrees d i s = record {
      height = refl;
      same = λ a k. sym (found-made f.height f f.columns ls a once_lower ∙ ap (λ (o : Option Named). look_at (values_made f.height f) o (found f.columns a)) (unmade_below es ls stay once once_lower h d a i s k));
    }

    pub found-now : (b : Name) → found now.columns b ≡ found was.columns b
    found-now b =
        found-made f.height is_lower is_lower.columns (stayed_of es ls stay) b (filter_distinct stay es once)
        ∙ ap (look_at (values_made f.height is_lower) (named_in (stayed_of es ls stay) b)) (found-made f.height f f.columns (sunk_of es ls stay) b (once_sunk es ls stay once once_lower))
        ∙ core es ls stay once once_lower (values_made f.height f) (values_made f.height was_lower) (values_made f.height is_lower) (found f.columns b) b
        (λ d q k. ap (filled f.height) (val_depends d.expr is_lower was_lower (stay_agrees d (named_one es b d q) k)))
        (λ d q k. ap (filled f.height) (val_depends d.expr f was_lower (sunk_agrees d (named_one es b d q) k)))
        ∙ sym (found-made f.height was_lower was_lower.columns es b once ∙ ap (look_at (values_made f.height was_lower) (named_in es b)) (found-made f.height f f.columns ls b once_lower))
