use Rattle.std.proofs.Common.{◌≡◌, ◌<◌, ℕ, None, Some, get_or, length}
use Rattle.plan_join_eval.proofs.compared.own_matches.Given as goal

-- each row up to here has its own list
abbrev pub invariant-loop-row : goal.invariant-loop-row
invariant-loop-row l = record {
  long : length l.numbers ≡ l.row;
  own : (i : ℕ) → i < l.row → get_or l.numbers i None ≡ Some i;
}
