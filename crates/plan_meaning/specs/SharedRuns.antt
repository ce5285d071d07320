-- Runs in which the caches of one number carry one frame.
use Rattle.std.specs.Prelude.{◌≡◌}
use Rattle.plan_frame.specs.Frames.{Frame}
use Rattle.plan_ir.specs.Plans.{Plan}
use Rattle.plan_meaning.specs.Caches.{CacheOf, IsCacheOf, caches}
use Rattle.plan_meaning.specs.Contents.{Contents}
use Rattle.plan_meaning.specs.Steps.{May}
use Rattle.plan_meaning.specs.Choices.{Chooses}

-- a frame that a plan gives, which another may give, where the plans below caches of one number give one frame
pub record SharedRun (c : Contents) (q p : Plan) : Type 0 where
  pub frame : Frame
  pub chosen : Chooses c q frame
  pub given : May c p frame
  pub each : (x : CacheOf) → IsCacheOf x (caches q) → (f : Frame) × Chooses c x.below f
  pub one : (x y : CacheOf) (f g : Frame) → IsCacheOf x (caches q) → IsCacheOf y (caches q) → x.id ≡ y.id → Chooses c x.below f → Chooses c y.below g → f ≡ g
