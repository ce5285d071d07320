-- Trees over two lists of numbers, one after the other: taken apart, and put side by side.
use Rattle.std.proofs.Common.{◌≡◌, List, [], ◌∷◌, ◌++◌, refl, sym, ◌∙◌, ap, inl, inr}
use Rattle.plan_core.specs.declared.arena.Node.{Node}
use Rattle.plan_tree.proofs.Frames.{join-left, join-right, IsOnce-join, Stands-join}
use Rattle.plan_tree.proofs.JoinLemmas.{join-assoc}
use Rattle.plan_tree.specs.Read.{gather}
use Rattle.plan_tree.specs.Rose.{rose, no_roses, more, join}
use Rattle.plan_tree.specs.Stands.{Shape, Trees, Apart, IsOnce, Stands, StandsOnce}

module _ {P : Type 0} where
  -- what trees side by side are apart
  pub record Once (f g : Trees P) : Type 0 where
    pub left : IsOnce f
    pub right : IsOnce g
    pub apart : Apart f g

module _ {P : Type 0} (S : Shape P) where
  -- two parts of trees side by side
  pub record Parts (lp : List P) (ns ms : List Node) (f : Trees P) : Type 0 where
    pub left : Trees P
    pub right : Trees P
    pub is : f ≡ join left right
    pub first : Stands S lp ns left
    pub second : Stands S lp ms right

  pub Stands-split : (lp : List P) (ns ms : List Node) (f : Trees P) → Stands S lp (ns ++ ms) f → Parts lp ns ms f
  Stands-split lp [] ms f s = record { left = no_roses; right = f; is = refl; first = tt; second = s }
  Stands-split lp (n ∷ ns) ms no_roses s = absurd s
  Stands-split lp (n ∷ ns) ms (more (rose m p kids) rest) s =
      let r = Stands-split lp ns ms rest s.4 in
      record { left = more (rose m p kids) r.left; right = r.right; is = ap (λ (x : Trees P). more (rose m p kids) x) r.is; first = (s.0, s.1, s.2, s.3, r.first); second = r.second }

  pub IsOnce-split : (f g : Trees P) → IsOnce (join f g) → Once f g
  IsOnce-split no_roses g o = record { left = tt; right = o; apart = λ k a b. a }
  IsOnce-split (more (rose n p kids) rest) g o =
      let r = IsOnce-split rest g o.4 in
      record {
        left = (o.0, (λ x. o.1 (join-left S rest g n.0 x)), (λ k a b. o.2 k a (join-left S rest g k b)), o.3, r.left);
        right = r.right;
        apart = λ k a b. elim a as (λ _. ⊥) [
          | inl e ↦ o.1 (join-right S rest g n.0 (rw (← e) b))
          | inr t ↦ elim t as (λ _. ⊥) [ inl u ↦ o.2 k u (join-right S rest g k b) | inr v ↦ r.apart k v b ]
        ];
      }

  -- trees that stand over both lists of numbers, and share no number
  pub record Sides (lp : List P) (ns ms : List Node) (f : Trees P) : Type 0 where
    pub left : Trees P
    pub right : Trees P
    pub is : f ≡ join left right
    pub first : StandsOnce S lp ns left
    pub second : StandsOnce S lp ms right
    pub apart : Apart left right

  pub StandsOnce-split : (lp : List P) (ns ms : List Node) (f : Trees P) → StandsOnce S lp (ns ++ ms) f → Sides lp ns ms f
  StandsOnce-split lp ns ms f h =
      let parts = Stands-split lp ns ms f h.stands in
      let once = IsOnce-split parts.left parts.right (rw parts.is at h.once) in
      record {
        left = parts.left;
        right = parts.right;
        is = parts.is;
        first = record { stands = parts.first; once = once.left };
        second = record { stands = parts.second; once = once.right };
        apart = once.apart;
      }

  pub StandsOnce-join : (lp : List P) (ns ms : List Node) (f g : Trees P) → StandsOnce S lp ns f → StandsOnce S lp ms g → Apart f g → StandsOnce S lp (ns ++ ms) (join f g)
  StandsOnce-join lp ns ms f g a b apart = record {
    stands = Stands-join S lp ns ms f g a.stands b.stands;
    once = IsOnce-join S f g a.once b.once apart;
  }

  -- what is read at numbers one after the other stands side by side
  pub gather-append : (read : Node → Trees P) (ns ms : List Node) → gather read (ns ++ ms) ≡ join (gather read ns) (gather read ms)
  gather-append read [] ms = refl
  gather-append read (n ∷ ns) ms = ap (λ (x : Trees P). join (read n) x) (gather-append read ns ms) ∙ sym (join-assoc (read n) (gather read ns) (gather read ms))
