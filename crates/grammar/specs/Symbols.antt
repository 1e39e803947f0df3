-- The bytes of a formula's text, and its signs.
use Rattle.std.specs.Prelude.{ℕ, ◌+◌, ◌≤◌, Bool, cond, ◌&&◌, ◌||◌, List, [], ◌∷◌, ◌==◌, nat_le}
use Rattle.grammar.specs.declared.connective.Connective.{Connective}
use Rattle.grammar.specs.declared.connective.Connective.TheVariants.{And, Or, Implies}
use Rattle.grammar.specs.declared.symbol.Symbol.{Symbol}
use Rattle.grammar.specs.declared.symbol.Symbol.TheVariants.{Falsum, Letter, Not, Open, Close, Sign, Other}

-- the bytes # ~ ( )
abbrev pub hash : ℕ
hash = 35

abbrev pub tilde : ℕ
tilde = 126

abbrev pub opening : ℕ
opening = 40

abbrev pub closing : ℕ
closing = 41

-- the bytes & | >
abbrev pub sign : Connective → ℕ
sign And = 38
sign Or = 124
sign Implies = 62

-- a byte from a to z
abbrev pub IsLetter : ℕ → Type 0
IsLetter b = (97 ≤ b) × (b ≤ 122)

-- what a byte stands for
abbrev pub symbol : ℕ → Symbol
symbol b =
    cond (b == hash) Falsum
    (cond (nat_le 97 b && nat_le b 122) Letter
    (cond (b == tilde) Not
    (cond (b == opening) Open
    (cond (b == closing) Close
    (cond (b == sign And) (Sign And)
    (cond (b == sign Or) (Sign Or)
    (cond (b == sign Implies) (Sign Implies) Other)))))))

-- a byte ~ & | >
abbrev pub is_sign : ℕ → Bool
is_sign b = b == tilde || b == sign And || b == sign Or || b == sign Implies

-- how many signs ~ & | > a text has
abbrev pub signs : List ℕ → ℕ
signs [] = 0
signs (b ∷ s) = cond (is_sign b) 1 0 + signs s
