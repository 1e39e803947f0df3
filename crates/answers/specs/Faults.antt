-- How a fault is told: its record, layer, number and place.
use Rattle.std.specs.Prelude.{ℕ}
use Rattle.grammar.specs.Refusals.{number_of as number_of_formula, place_of as place_of_formula}
use Rattle.heyting.specs.Refusals.{number_of as number_of_algebra, place_of as place_of_algebra}
use Rattle.fitch.specs.Refusals.{number_of as number_of_derivation, place_of as place_of_derivation}
use Rattle.answers.specs.declared.fault.Fault.{Fault}
use Rattle.answers.specs.declared.fault.Fault.TheVariants.{TooLong, At}
use Rattle.answers.specs.declared.fault.Layer.{Layer}
use Rattle.answers.specs.declared.fault.Layer.TheVariants as layers
use Rattle.answers.specs.declared.fault.Reason.{Reason}
use Rattle.answers.specs.declared.fault.Reason.TheVariants as reasons

abbrev pub record_of : Fault → ℕ
record_of TooLong = 0
record_of (At n reason) = n

abbrev layer_of_reason : Reason → Layer
layer_of_reason (reasons.Form field) = layers.Text
layer_of_reason (reasons.Formula refusal) = layers.Formula
layer_of_reason (reasons.Derivation refusal) = layers.Derivation
layer_of_reason (reasons.Algebra refusal) = layers.Algebra

abbrev pub layer_of : Fault → Layer
layer_of TooLong = layers.Text
layer_of (At n reason) = layer_of_reason reason

abbrev number_of_reason : Reason → ℕ
number_of_reason (reasons.Form field) = 29
number_of_reason (reasons.Formula refusal) = number_of_formula refusal
number_of_reason (reasons.Derivation refusal) = number_of_derivation refusal
number_of_reason (reasons.Algebra refusal) = number_of_algebra refusal

abbrev pub number_of : Fault → ℕ
number_of TooLong = 28
number_of (At n reason) = number_of_reason reason

abbrev place_of_reason : Reason → ℕ
place_of_reason (reasons.Form field) = field
place_of_reason (reasons.Formula refusal) = place_of_formula refusal
place_of_reason (reasons.Derivation refusal) = place_of_derivation refusal
place_of_reason (reasons.Algebra refusal) = place_of_algebra refusal

abbrev pub place_of : Fault → ℕ
place_of TooLong = 0
place_of (At n reason) = place_of_reason reason
