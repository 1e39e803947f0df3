-- The examples of the three theories, in one statement.
use Rattle.grammar.specs.Examples.{Examples as ReadingExamples}
use Rattle.heyting.specs.Examples.{Examples as AlgebraExamples}
use Rattle.fitch.specs.Example.{InnerBox, InnerBoxAnswered}

pub record TheoryExamples : Type 0 where
  -- a fresh store reads (p>#) and ~p to place 27, and p after 32 signs ~; it refuses (p&q 3 at 4, p&q 3 at 1, the empty text 3 at 0, and p after 33 signs ~ 4
  pub reading : ReadingExamples
  -- of two nested boxes that assume p and q, the outer one gives (p>p) by >I, and not (p>q)
  pub inner_box : InnerBox
  -- with both stored, a step by it to (p>p) is accepted, and one to (p>q) is refused 15
  pub inner_box_answered : InnerBoxAnswered
  -- worlds 0 below 1, the double-negation layer over them, three worlds in a ring, and two single worlds paired
  pub algebras : AlgebraExamples
