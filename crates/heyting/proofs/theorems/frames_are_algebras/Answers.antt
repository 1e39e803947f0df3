use Rattle.heyting.specs.Order.{Order}
use Rattle.heyting.specs.Order.Order.{same}
use Rattle.heyting.proofs.Closures.{order_trans, some_frame}
use Rattle.heyting.proofs.Frames.{one_algebra, worlds_lawful}
use Rattle.heyting.proofs.theorems.frames_are_algebras.Goals as goal

pub returns : goal.returns
returns c = record {
  some = some_frame;
  one = λ n pairs m k f g. one_algebra n (Order pairs) m k f g;
  lawful = λ n pairs m range f. worlds_lawful n (Order pairs) m f range (λ u hu. same) (λ u v w hu hv hw p q. order_trans p q);
}
