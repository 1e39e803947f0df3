-- How a buffer fills.
use Rattle.std.proofs.Common.{◌≡◌, ℕ, ◌+◌, ◌<◌, ◌≤◌, List, [], ◌∷◌, ◌++◌, length, take, drop, set, sym, refl, ap, ◌∙◌, append_assoc, add-zero, add-one, arith, length-append, length-drop, take-append-drop}
use Rattle.std.proofs.lemmas.List.{set_split, take_at, drop_at, drop-drop, length-take-le}
use Rattle.grammar.specs.Writing.{put}

module _ (buffer : List ℕ) (at : ℕ) (within : at ≤ length buffer) where
  pub put_none : buffer ≡ put buffer at []
  put_none = sym (take-append-drop at buffer) ∙ ap (λ i. take at buffer ++ drop i buffer) (sym (add-zero at))

  module _ (x s : List ℕ) (m : ℕ) (is : x ≡ put buffer at s) (here : m ≡ at + length s) where
    split : x ≡ (take at buffer ++ s) ++ drop m buffer
    split = is ∙ ap (λ i. take at buffer ++ (s ++ drop i buffer)) (sym here) ∙ sym (append_assoc (take at buffer) s (drop m buffer))

    front_long : length (take at buffer ++ s) ≡ m
    front_long = omega (arith, length-append (take at buffer) s, length-take-le at buffer within, here)

    -- a text is written where s ends
    pub put_text : (t : List ℕ) → put x m t ≡ put buffer at (s ++ t)
    put_text t =
        let front : take m x ≡ take at buffer ++ s = ap (take m) split ∙ take_at (take at buffer ++ s) (drop m buffer) m front_long in
        let back : drop m x ≡ drop m buffer = ap (drop m) split ∙ drop_at (take at buffer ++ s) (drop m buffer) m front_long in
        let end : m + length t ≡ at + length (s ++ t) = omega (arith, here, length-append s t) in
        let rest : drop (m + length t) x ≡ drop (at + length (s ++ t)) buffer = sym (drop-drop (length t) m x) ∙ ap (drop (length t)) back ∙ drop-drop (length t) m buffer ∙ ap (λ i. drop i buffer) end in
        (λ i. front i ++ (t ++ rest i)) ∙ append_assoc (take at buffer) s (t ++ drop (at + length (s ++ t)) buffer) ∙ ap (λ l. take at buffer ++ l) (sym (append_assoc s t (drop (at + length (s ++ t)) buffer)))

    pub put_byte : (b : ℕ) → m < length x → set x m b ≡ put buffer at (s ++ b ∷ [])
    put_byte b h = set_split x m b h ∙ ap (λ i. take m x ++ b ∷ drop i x) (sym (add-one m)) ∙ put_text (b ∷ [])

pub length_put : (buffer : List ℕ) (at : ℕ) (t : List ℕ) → at + length t ≤ length buffer → length (put buffer at t) ≡ length buffer
length_put buffer at t h =
    omega (arith, length-append (take at buffer) (t ++ drop (at + length t) buffer), length-append t (drop (at + length t) buffer), length-take-le at buffer (omega arith), length-drop (at + length t) buffer)

-- one byte is written
pub put_first : (buffer : List ℕ) (at b : ℕ) → at < length buffer → set buffer at b ≡ put buffer at (b ∷ [])
put_first buffer at b h = put_byte buffer at (omega arith) buffer [] at (put_none buffer at (omega arith)) (omega arith) b h

-- one byte is written, and then a text
pub put_then : (buffer : List ℕ) (at b : ℕ) (t : List ℕ) → at < length buffer → put (set buffer at b) (at + 1) t ≡ put buffer at (b ∷ t)
put_then buffer at b t h = put_text buffer at (omega arith) (set buffer at b) (b ∷ []) (at + 1) (put_first buffer at b h) refl t

-- a joined formula's text is written: a bracket, the first part, the sign, the second part, a bracket
module _ (buffer : List ℕ) (at : ℕ) (s t : List ℕ) (sign : ℕ) (room : at + (length s + length t + 3) ≤ length buffer) where
  module _ (x : List ℕ) (m : ℕ) (wrote : x ≡ put (set buffer at 40) (at + 1) s) (here : m ≡ at + 1 + length s) where
    first : x ≡ put buffer at (40 ∷ s)
    first = wrote ∙ put_then buffer at 40 s (omega arith)

    signed : set x m sign ≡ put buffer at ((40 ∷ s) ++ sign ∷ [])
    signed = put_byte buffer at (omega arith) x (40 ∷ s) m first (omega arith) sign (omega (arith, ap length first, length_put buffer at (40 ∷ s) (omega arith)))

    pub put_joined : (y : List ℕ) (e : ℕ) → y ≡ put (set x m sign) (m + 1) t → e ≡ m + 1 + length t → set y e 41 ≡ put buffer at (40 ∷ s ++ (sign ∷ t ++ (41 ∷ [])))
    put_joined y e wrote' end =
        let front : length ((40 ∷ s) ++ sign ∷ []) ≡ length s + 2 = omega (arith, length-append (40 ∷ s) (sign ∷ [])) in
        let all = ((40 ∷ s) ++ sign ∷ []) ++ t in
        let long : length all ≡ length s + length t + 2 = omega (arith, length-append ((40 ∷ s) ++ sign ∷ []) t) in
        let second : y ≡ put buffer at all = wrote' ∙ put_text buffer at (omega arith) (set x m sign) ((40 ∷ s) ++ sign ∷ []) (m + 1) signed (omega arith) t in
        let same : all ++ 41 ∷ [] ≡ 40 ∷ s ++ (sign ∷ t ++ (41 ∷ [])) = simp append_assoc in
        put_byte buffer at (omega arith) y all e second (omega arith) 41 (omega (arith, ap length second, length_put buffer at all (omega arith))) ∙ ap (put buffer at) same
