-- A frame is loaded pair by pair.
use Rattle.std.proofs.Common.{◌≡◌, ℕ, ◌+◌, ◌<◌, ◌≤◌, true, false, List, [], ◌∷◌, ◌++◌, Ok, Err, Result, length, get_or, take, add-one, refl, sym, subst, arith, below_more}
use Rattle.std.proofs.Math.Seq.{take-suc}
use Rattle.std.proofs.lemmas.List.{take_all}
use Rattle.std.specs.Result.{is_err}
use Rattle.heyting.specs.Loading.{InRange, Named, Loadable, Unloadable}
use Rattle.heyting.specs.declared.refusal.Refusal.{Refusal}
use Rattle.heyting.specs.declared.refusal.Refusal.TheVariants.{NoSuchWorld}
use Rattle.frames.specs.Frames.{Ordered, Related}
use Rattle.frames.specs.declared.frame.Frame.{Frame}

-- f is the frame of the first i pairs, which name worlds
pub record HalfLoaded (worlds : ℕ) (pairs : List (ℕ × ℕ)) (i : ℕ) (f : Frame) : Type 0 where
  pub range : InRange worlds
  pub named : (k : ℕ) → k < i → Named worlds (get_or pairs k (0, 0))
  pub so_far : Ordered worlds (take i pairs) f

related : (u v : ℕ) (before after : Frame) (r : Result Unit Refusal) → is_err r ≡ false → Related u v before after r → Related u v before after (Ok tt)
related u v before after (Ok x) e h = h
related u v before after (Err refusal) e h = cc

unrelated : (u v : ℕ) (before after : Frame) (r : Result Unit Refusal) → is_err r ≡ true → Related u v before after r → Named before.worlds (u, v) → ⊥
unrelated u v before after (Ok x) e h = cc
unrelated u v before after (Err refusal) e h = h.0

pub none_loaded : (worlds : ℕ) (pairs : List (ℕ × ℕ)) (f : Frame) → InRange worlds → Ordered worlds [] f → HalfLoaded worlds pairs 0 f
none_loaded worlds pairs f range o = record { range = range; named = λ k h. absurd (omega (arith, h)); so_far = o }

module _ (worlds : ℕ) (pairs : List (ℕ × ℕ)) (i : ℕ) (f : Frame) (half : HalfLoaded worlds pairs i f) where
  pub one_loaded :
      (u v : ℕ) (after : Frame) (r : Result Unit Refusal) → i < length pairs → get_or pairs i (0, 0) ≡ (u, v) → is_err r ≡ false → Related u v f after r
      → HalfLoaded worlds pairs (i + 1) after
  one_loaded u v after r within is ok h =
      let p = related u v f after r ok h in
      let here : Named worlds (get_or pairs i (0, 0)) = subst (Named worlds) (sym is) (subst (λ n. Named n (u, v)) half.so_far.worlds_is p.0) in
      let next : take (i + 1) pairs ≡ take i pairs ++ (u, v) ∷ [] = rw (add-one, take-suc pairs i (0, 0) within, is) in
      record {
        range = half.range;
        named = below_more (λ k. Named worlds (get_or pairs k (0, 0))) i half.named here;
        so_far = subst (λ ps. Ordered worlds ps after) (sym next) (p.1 worlds (take i pairs) half.so_far);
      }

  pub not_loaded :
      (u v : ℕ) (after : Frame) (r : Result Unit Refusal) → i < length pairs → get_or pairs i (0, 0) ≡ (u, v) → is_err r ≡ true → Related u v f after r
      → Unloadable worlds pairs (NoSuchWorld (i + 1))
  not_loaded u v after r within is err h =
      let out : Named f.worlds (u, v) → ⊥ = unrelated u v f after r err h in (
        half.range,
        record {
          index = i;
          place_is = refl;
          within = within;
          unnamed = λ named. out (subst (λ n. Named n (u, v)) (sym half.so_far.worlds_is) (subst (Named worlds) is named));
          before = half.named;
        },
      )

  pub all_loaded : length pairs ≤ i → Loadable worlds pairs × Ordered worlds pairs f
  all_loaded end = (
    record { range = half.range; named = λ k h. half.named k (omega (arith, h, end)) },
    subst (λ ps. Ordered worlds ps f) (take_all i pairs end) half.so_far,
  )
