use Rattle.heyting.proofs.Layer.{regular_boolean}
use Rattle.heyting.proofs.Nuclei.{single_lawful, nucleus_lawful, regular_lawful}
use Rattle.heyting.proofs.Products.{product_lawful}
use Rattle.heyting.proofs.theorems.layers_are_algebras.Goals as goal

pub returns : goal.returns
returns c = record { single_lawful = single_lawful; product_lawful = product_lawful; nucleus_lawful = nucleus_lawful; regular_lawful = regular_lawful; regular_boolean = regular_boolean }
