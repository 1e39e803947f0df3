use Rattle.fitch.proofs.Citing.{cited_once}
use Rattle.fitch.proofs.Resolving.{fits_kinds}
use Rattle.fitch.proofs.Telling.{numbered_boxes}
use Rattle.fitch.proofs.theorems.citations_are_exact.Goals as goal

pub returns : goal.returns
returns c = record { kinds = fits_kinds; once = cited_once; boxes = numbered_boxes }
