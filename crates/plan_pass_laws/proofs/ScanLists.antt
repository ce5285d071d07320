-- Scans that keep others, list after list.
use Rattle.std.proofs.Common.{List, [], ◌∷◌, ◌++◌, subst, append-nil}
use Rattle.plan_tree.specs.Rose.{rose, no_roses}
use Rattle.plan_ir.specs.Plans.{Op, Plan}
use Rattle.plan_meaning.specs.Scans.{KeepScans, Keeps, own_scan, scans}
use Rattle.plan_meaning.proofs.Keeping.{keeps_refl}

pub keep_join : (os us ss zs : List Op) → KeepScans os ss → KeepScans us zs → KeepScans (os ++ us) (ss ++ zs)
keep_join [] us [] zs h k = k
keep_join (o ∷ os) us (s ∷ ss) zs h k = (h.0, h.1, keep_join os us ss zs h.2 k)
keep_join [] us (s ∷ ss) zs h k = absurd h
keep_join (o ∷ os) us [] zs h k = absurd h

-- a node keeps its own scans
pub own_keeps : (op : Op) → KeepScans (own_scan op) (own_scan op)
own_keeps op = subst (λ (l : List Op). KeepScans l l) (append-nil (own_scan op)) (keeps_refl (rose tt op no_roses))

-- a plan keeps those of another where, each alone, they do
pub alone_keeps : (q p : Plan) → KeepScans (scans q ++ []) (scans p ++ []) → Keeps q p
alone_keeps q p h = subst (λ (l : List Op). KeepScans l (scans p)) (append-nil (scans q)) (subst (λ (l : List Op). KeepScans (scans q ++ []) l) (append-nil (scans p)) h)
