-- The limits of algebras.
use Rattle.std.specs.Prelude.{ℕ}

-- the span of an algebra
abbrev pub most_span : ℕ
most_span = 65536

-- the worlds of a frame
abbrev pub most_worlds : ℕ
most_worlds = 12
