-- What a frame means, and what building one pair by pair and loading one answer and leave.
use Rattle.std.specs.Prelude.{◌≡◌, ℕ, ◌<◌, List, [], ◌∷◌, ◌++◌, Ok, Err, Result, Decides}
use Rattle.heyting.specs.Loading.{Named, Loadable, Unloadable}
use Rattle.heyting.specs.Meaning.{Meaning}
use Rattle.heyting.specs.Order.{Order}
use Rattle.heyting.specs.Tables.{table, kripke, related}
use Rattle.heyting.specs.Worlds.{FrameOf}
use Rattle.heyting.specs.declared.refusal.Refusal.{Refusal}
use Rattle.heyting.specs.declared.refusal.Refusal.TheVariants.{NoSuchWorld}
use Rattle.frames.specs.declared.frame.Frame.{Frame}

abbrev pub frame_means : Frame → Meaning
frame_means f = kripke f.worlds (table f.up)

-- f has so many worlds in the order of the pairs, and so means the algebra of their frame
pub record Ordered (worlds : ℕ) (pairs : List (ℕ × ℕ)) (f : Frame) : Type 0 where
  pub worlds_is : f.worlds ≡ worlds
  pub order : (u v : ℕ) → u < worlds → v < worlds → Decides (table f.up u v) (Order pairs u v)
  pub frame : FrameOf worlds pairs (frame_means f)

-- the frame as it was and as it is after world v is put above world u: that of one pair more, so that what lies at or above v lies above all that lie at or below u; or after a refusal the same
abbrev pub Related : ℕ → ℕ → Frame → Frame → Result Unit Refusal → Type 0
Related u v before after (Ok _) =
    Named before.worlds (u, v)
    × ((worlds : ℕ) (pairs : List (ℕ × ℕ)) → Ordered worlds pairs before → Ordered worlds (pairs ++ (u, v) ∷ []) after)
    × (after.worlds ≡ before.worlds)
    × ((w x : ℕ) → w < before.worlds → table after.up w x ≡ related (table before.up) u v w x)
Related u v before after (Err refusal) = (Named before.worlds (u, v) → ⊥) × (refusal ≡ NoSuchWorld 1) × (after ≡ before)

-- the frame as it was and as it is: that of these worlds and pairs, or after a refusal the same
abbrev pub Loaded : ℕ → List (ℕ × ℕ) → Frame → Frame → Result Unit Refusal → Type 0
Loaded worlds pairs before after (Ok _) = Loadable worlds pairs × Ordered worlds pairs after
Loaded worlds pairs before after (Err refusal) = Unloadable worlds pairs refusal × (after ≡ before)
