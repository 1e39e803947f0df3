-- A file has one algebra and one first fault.
use Rattle.std.proofs.Common.{◌≡◌, ℕ, ◌+◌, ◌<◌, true, List, get_or, Some, None, Option, ⊎_elim, refl, sym, ap, ◌∙◌, subst, arith}
use Rattle.std.proofs.Math.Path.{ap₂}
use Rattle.std.proofs.lemmas.Bool.{cases_order}
use Rattle.std.proofs.lemmas.Grind.{same_number_lists}
use Rattle.heyting.proofs.Frames.{one_algebra}
use Rattle.heyting.specs.Evaluating.{FirstStranger}
use Rattle.heyting.specs.Layers.{Pairable, product}
use Rattle.heyting.specs.Loading.{Loadable, Unloadable, FirstUnnamed}
use Rattle.heyting.specs.Meaning.{Meaning, Member}
use Rattle.heyting.specs.Order.{Order}
use Rattle.heyting.specs.Values.{ByMembers}
use Rattle.heyting.specs.declared.refusal.Refusal.{Refusal}
use Rattle.heyting.specs.declared.refusal.Refusal.TheVariants.{WorldsOutOfRange, NoSuchWorld, SpanTooLarge, NotMember, ShortBuffer, LetterNotMember}
use Rattle.algebra_files.specs.Faults.{record_at, second_record, layer_record, values_record, blamed, LetterFault, LayerFault, FileFault}
use Rattle.entries.specs.AlgebraFiles.{Base, File, written}
use Rattle.algebra_files.specs.Meant.{Loads, Paired, Founds, Layered, Means, Elements, ElementFor, LastFor}
use Rattle.algebra_files.specs.Reading.{file_in}
use Rattle.algebra_files.proofs.Written.{read_back}

pub one_file_lem : (f g : File) → written f ≡ written g → f ≡ g
one_file_lem f g e = let same : Some f ≡ Some g = sym (read_back f) ∙ (ap file_in e ∙ read_back g) in cc

loads_one : (b : Base) (m k : Meaning) → Loads b m → Loads b k → m ≡ k
loads_one b m k p q = one_algebra b.worlds (Order b.pairs) m k p.frame q.frame

founds_one : (first : Base) (second : Option Base) (m k : Meaning) → Founds first second m → Founds first second k → m ≡ k
founds_one first None m k p q = loads_one first m k p q
founds_one first (Some b) m k p q =
    p.product_is ∙ (ap₂ product (loads_one first p.left q.left p.left_is q.left_is) (loads_one b p.right q.right p.right_is q.right_is) ∙ sym q.product_is)

layered_one : (below : Meaning) (layer : Option ℕ) (m k : Meaning) → Layered below layer m → Layered below layer k → m ≡ k
layered_one below None m k p q = p ∙ sym q
layered_one below (Some e) m k p q = p.1 ∙ sym q.1

pub one_algebra_lem : (f : File) (m k : Meaning) → Means f m → Means f k → m ≡ k
one_algebra_lem f m k p q =
    layered_one q.below f.layer m k (subst (λ b. Layered b f.layer m) (founds_one f.first f.second p.below q.below p.founded q.founded) p.layered) q.layered

-- of two indices neither comes before the other
only : (i j : ℕ) → (i < j → ⊥) → (j < i → ⊥) → i ≡ j
only i j not_before not_after = ⊎_elim (λ e. e) (λ o. absurd (⊎_elim not_before not_after o)) (cases_order i j)

unnamed_one : (n : ℕ) (ps : List (ℕ × ℕ)) (p q : ℕ) → FirstUnnamed n ps p → FirstUnnamed n ps q → p ≡ q
unnamed_one n ps p q a b =
    let e : a.index ≡ b.index = only a.index b.index (λ h. a.unnamed (b.before a.index h)) (λ h. b.unnamed (a.before b.index h)) in
    omega (arith, a.place_is, b.place_is, e)

loadable_not : (n : ℕ) (ps : List (ℕ × ℕ)) (r : Refusal) → Loadable n ps → Unloadable n ps r → ⊥
loadable_not n ps WorldsOutOfRange l u = u l.range
loadable_not n ps (NoSuchWorld place) l u = u.1.unnamed (l.named u.1.index u.1.within)
loadable_not n ps SpanTooLarge l u = u
loadable_not n ps NotMember l u = u
loadable_not n ps ShortBuffer l u = u
loadable_not n ps (LetterNotMember letter) l u = u

unloadable_one : (n : ℕ) (ps : List (ℕ × ℕ)) (r q : Refusal) → Unloadable n ps r → Unloadable n ps q → r ≡ q
unloadable_one n ps WorldsOutOfRange WorldsOutOfRange u w = refl
unloadable_one n ps WorldsOutOfRange (NoSuchWorld place) u w = absurd (u w.0)
unloadable_one n ps (NoSuchWorld place) WorldsOutOfRange u w = absurd (w u.0)
unloadable_one n ps (NoSuchWorld p) (NoSuchWorld q) u w = ap (λ i. NoSuchWorld i) (unnamed_one n ps p q u.1 w.1)
unloadable_one n ps WorldsOutOfRange SpanTooLarge u w = absurd w
unloadable_one n ps WorldsOutOfRange NotMember u w = absurd w
unloadable_one n ps WorldsOutOfRange ShortBuffer u w = absurd w
unloadable_one n ps WorldsOutOfRange (LetterNotMember letter) u w = absurd w
unloadable_one n ps (NoSuchWorld p) SpanTooLarge u w = absurd w
unloadable_one n ps (NoSuchWorld p) NotMember u w = absurd w
unloadable_one n ps (NoSuchWorld p) ShortBuffer u w = absurd w
unloadable_one n ps (NoSuchWorld p) (LetterNotMember letter) u w = absurd w
unloadable_one n ps SpanTooLarge q u w = absurd u
unloadable_one n ps NotMember q u w = absurd u
unloadable_one n ps ShortBuffer q u w = absurd u
unloadable_one n ps (LetterNotMember letter) q u w = absurd u

stranger_one : (m : Meaning) (v : List ℕ) (p q : ℕ) → FirstStranger m v p → FirstStranger m v q → p ≡ q
stranger_one m v p q a b =
    let e : a.index ≡ b.index = only a.index b.index (λ h. let x = a.stranger in let y = b.before a.index h in cc) (λ h. let x = b.stranger in let y = a.before b.index h in cc) in
    omega (arith, a.place_is, b.place_is, e)

last_one : (vs : List (ℕ × ℕ)) (letter k j : ℕ) → LastFor vs letter k → LastFor vs letter j → k ≡ j
last_one vs letter k j a b = only k j (λ h. a.after j h b.within b.here) (λ h. b.after k h a.within a.here)

pub element_one : (bottom : ℕ) (vs : List (ℕ × ℕ)) (letter x y : ℕ) → ElementFor bottom vs letter x → ElementFor bottom vs letter y → x ≡ y
element_one bottom vs letter x y (ElementFor.none h) (ElementFor.none g) = refl
element_one bottom vs letter x y (ElementFor.none h) (ElementFor.last k l) = absurd (h k l.within l.here)
element_one bottom vs letter x y (ElementFor.last k l) (ElementFor.none h) = absurd (h k l.within l.here)
element_one bottom vs letter x y (ElementFor.last k l) (ElementFor.last j m) = ap (λ i. (get_or vs i (0, 0)).1) (last_one vs letter k j l m)

pub elements_one : (bottom : ℕ) (vs : List (ℕ × ℕ)) (v w : List ℕ) → Elements bottom vs v → Elements bottom vs w → v ≡ w
elements_one bottom vs v w a b =
    same_number_lists v w (a.all ∙ sym b.all)
    (λ i h. let small : i < 26 = omega (arith, h, a.all) in element_one bottom vs (97 + i) (get_or v i 0) (get_or w i 0) (a.each i small) (b.each i small))

letter_one : (m : Meaning) (vs : List (ℕ × ℕ)) (s n k : ℕ) (r q : Refusal) → LetterFault m vs s n r → LetterFault m vs s k q → (n ≡ k) × (r ≡ q)
letter_one m vs s n k r q (LetterFault.stranger v a i given first last) (LetterFault.stranger w b j given_too first_too last_too) =
    let letter : a ≡ b = stranger_one m w a b (subst (λ x. FirstStranger m x a) (elements_one m.bottom vs v w given given_too) first) first_too in
    let index : i ≡ j = last_one vs (96 + b) i j (subst (λ x. LastFor vs (96 + x) i) letter last) last_too in
    (ap (record_at s) index, ap (λ x. LetterNotMember x) letter)

not_stranger : (below m : Meaning) (layer : Option ℕ) (e : ℕ) → layer ≡ Some e → Layered below layer m → Member below e
not_stranger below m layer e is layered = (subst (λ o. Layered below o m) is layered).0

layer_one : (below : Meaning) (layer : Option ℕ) (vs : List (ℕ × ℕ)) (s n k : ℕ) (r q : Refusal) → LayerFault below layer vs s n r → LayerFault below layer vs s k q → (n ≡ k) × (r ≡ q)
layer_one below layer vs s n k r q (LayerFault.stranger e is out) (LayerFault.stranger d is_too out_too) = (refl, refl)
layer_one below layer vs s n k r q (LayerFault.stranger e is out) (LayerFault.letter m i p layered fault) = absurd (out (not_stranger below m layer e is layered))
layer_one below layer vs s n k r q (LayerFault.letter m i p layered fault) (LayerFault.stranger e is out) = absurd (out (not_stranger below m layer e is layered))
layer_one below layer vs s n k r q (LayerFault.letter m i p layered fault) (LayerFault.letter o j t layered_too fault_too) =
    letter_one o vs (values_record s layer) i j p t (subst (λ x. LetterFault x vs (values_record s layer) i p) (layered_one below layer m o layered layered_too) fault) fault_too

first_stands : (first : Base) (second : Option Base) (m : Meaning) → Founds first second m → Loadable first.worlds first.pairs
first_stands first None m founded = founded.loadable
first_stands first (Some b) m founded = founded.left_is.loadable

pair_of : (first : Base) (second : Option Base) (b : Base) (m : Meaning) → second ≡ Some b → Founds first second m → Paired first b m
pair_of first second b m is founded = subst (λ o. Founds first o m) is founded

same_second : (f : File) (b c : Base) → f.second ≡ Some b → f.second ≡ Some c → b ≡ c
same_second f b c p q = let e : Some b ≡ Some c = sym p ∙ q in cc

second_one : (f : File) (b c : Base) (r q : Refusal) → f.second ≡ Some b → f.second ≡ Some c → Unloadable b.worlds b.pairs r → Unloadable c.worlds c.pairs q → r ≡ q
second_one f b c r q is is_too u w = unloadable_one c.worlds c.pairs r q (subst (λ x. Unloadable x.worlds x.pairs r) (same_second f b c is is_too) u) w

second_not : (f : File) (b c : Base) (r : Refusal) → f.second ≡ Some b → f.second ≡ Some c → Unloadable b.worlds b.pairs r → Loadable c.worlds c.pairs → ⊥
second_not f b c r is is_too u l = loadable_not c.worlds c.pairs r l (subst (λ x. Unloadable x.worlds x.pairs r) (same_second f b c is is_too) u)

small_not : (f : File) (b : Base) (m n k : Meaning) → Loads f.first m → f.second ≡ Some b → Loads b n → (Pairable m n → ⊥) → Founds f.first f.second k → ⊥
small_not f b m n k loads is second large founded =
    let p = pair_of f.first f.second b k is founded in
    large (subst (Pairable m) (loads_one b p.right n p.right_is second) (subst (λ x. Pairable x p.right) (loads_one f.first p.left m p.left_is loads) p.small))

module _ (first : ℕ) (f : File) where
  -- a fault before the layer, where the bases stand
  above_alone : (m : Meaning) (n k : ℕ) (r q : Refusal) → Founds f.first f.second m → LayerFault m f.layer f.values (layer_record first f) n r → FileFault first f k q → (n ≡ k) × (r ≡ q)
  above_alone m n k r q founded fault (FileFault.first_base p u) = absurd (loadable_not f.first.worlds f.first.pairs p (first_stands f.first f.second m founded) u)
  above_alone m n k r q founded fault (FileFault.second_base b p l is u) =
      absurd (loadable_not b.worlds b.pairs p (pair_of f.first f.second b m is founded).right_is.loadable u)
  above_alone m n k r q founded fault (FileFault.too_large b o j loads is second large) = absurd (small_not f b o j m loads is second large founded)
  above_alone m n k r q founded fault (FileFault.above o i p founded_too fault_too) =
      layer_one o f.layer f.values (layer_record first f) n i r p
      (subst (λ x. LayerFault x f.layer f.values (layer_record first f) n r) (founds_one f.first f.second m o founded founded_too) fault) fault_too

  first_alone : (k : ℕ) (r q : Refusal) → Unloadable f.first.worlds f.first.pairs r → FileFault first f k q → (record_at first (blamed r) ≡ k) × (r ≡ q)
  first_alone k r q u (FileFault.first_base p w) = let e = unloadable_one f.first.worlds f.first.pairs r p u w in (ap (λ x. record_at first (blamed x)) e, e)
  first_alone k r q u (FileFault.second_base b p l is w) = absurd (loadable_not f.first.worlds f.first.pairs r l u)
  first_alone k r q u (FileFault.too_large b m n loads is second large) = absurd (loadable_not f.first.worlds f.first.pairs r loads.loadable u)
  first_alone k r q u (FileFault.above m i p founded fault) = absurd (loadable_not f.first.worlds f.first.pairs r (first_stands f.first f.second m founded) u)

  second_alone :
      (b : Base) (k : ℕ) (r q : Refusal) → Loadable f.first.worlds f.first.pairs → f.second ≡ Some b → Unloadable b.worlds b.pairs r → FileFault first f k q
      → (record_at (second_record first f) (blamed r) ≡ k) × (r ≡ q)
  second_alone b k r q l is u (FileFault.first_base p w) = absurd (loadable_not f.first.worlds f.first.pairs p l w)
  second_alone b k r q l is u (FileFault.second_base c p l_too is_too w) = let e = second_one f b c r p is is_too u w in (ap (λ x. record_at (second_record first f) (blamed x)) e, e)
  second_alone b k r q l is u (FileFault.too_large c m n loads is_too second large) = absurd (second_not f b c r is is_too u second.loadable)
  second_alone b k r q l is u (FileFault.above m i p founded fault) = absurd (loadable_not b.worlds b.pairs r (pair_of f.first f.second b m is founded).right_is.loadable u)

  large_alone :
      (b : Base) (m n : Meaning) (k : ℕ) (q : Refusal) → Loads f.first m → f.second ≡ Some b → Loads b n → (Pairable m n → ⊥) → FileFault first f k q
      → (second_record first f ≡ k) × (SpanTooLarge ≡ q)
  large_alone b m n k q loads is second large (FileFault.first_base p w) = absurd (loadable_not f.first.worlds f.first.pairs p loads.loadable w)
  large_alone b m n k q loads is second large (FileFault.second_base c p l is_too w) = absurd (second_not f c b p is_too is w second.loadable)
  large_alone b m n k q loads is second large (FileFault.too_large c o j loads_too is_too second_too large_too) = (refl, refl)
  large_alone b m n k q loads is second large (FileFault.above o i p founded fault) = absurd (small_not f b m n o loads is second large founded)

  pub one_fault_at : (n k : ℕ) (r q : Refusal) → FileFault first f n r → FileFault first f k q → (n ≡ k) × (r ≡ q)
  one_fault_at n k r q (FileFault.first_base p u) other = first_alone k p q u other
  one_fault_at n k r q (FileFault.second_base b p l is u) other = second_alone b k p q l is u other
  one_fault_at n k r q (FileFault.too_large b m o loads is second large) other = large_alone b m o k q loads is second large other
  one_fault_at n k r q (FileFault.above m i p founded fault) other = above_alone m i k p q founded fault other

  under_layer : (m k : Meaning) (s n : ℕ) (r : Refusal) → Layered k f.layer m → LayerFault k f.layer f.values s n r → LetterFault m f.values (values_record s f.layer) n r
  under_layer m k s n r layered (LayerFault.stranger e is out) = absurd (out (not_stranger k m f.layer e is layered))
  under_layer m k s n r layered (LayerFault.letter o i p layered_too fault) =
      subst (λ x. LetterFault x f.values (values_record s f.layer) i p) (layered_one k f.layer o m layered_too layered) fault

  -- where an algebra is meant only letters are at fault
  letter_fault : (m : Meaning) (n : ℕ) (r : Refusal) → Means f m → FileFault first f n r → LetterFault m f.values (values_record (layer_record first f) f.layer) n r
  letter_fault m n r means (FileFault.first_base p u) = absurd (loadable_not f.first.worlds f.first.pairs p (first_stands f.first f.second means.below means.founded) u)
  letter_fault m n r means (FileFault.second_base b p l is u) =
      absurd (loadable_not b.worlds b.pairs p (pair_of f.first f.second b means.below is means.founded).right_is.loadable u)
  letter_fault m n r means (FileFault.too_large b o j loads is second large) = absurd (small_not f b o j means.below loads is second large means.founded)
  letter_fault m n r means (FileFault.above o i p founded fault) =
      under_layer m means.below (layer_record first f) i p means.layered
      (subst (λ x. LayerFault x f.layer f.values (layer_record first f) i p) (founds_one f.first f.second o means.below founded means.founded) fault)

  a_letter : (m : Meaning) (s n : ℕ) (r : Refusal) → LetterFault m f.values s n r → (letter : ℕ) × (r ≡ LetterNotMember letter)
  a_letter m s n r (LetterFault.stranger w letter i given stranger last) = (letter, refl)

  pub letter_only : (m : Meaning) (n : ℕ) (r : Refusal) → Means f m → FileFault first f n r → (letter : ℕ) × (r ≡ LetterNotMember letter)
  letter_only m n r means fault = a_letter m (values_record (layer_record first f) f.layer) n r (letter_fault m n r means fault)

  no_letter : (m : Meaning) (v : List ℕ) (s n : ℕ) (r : Refusal) → Elements m.bottom f.values v → ByMembers m v → LetterFault m f.values s n r → ⊥
  no_letter m v s n r elements members (LetterFault.stranger w letter i given stranger last) =
      let same : w ≡ v = elements_one m.bottom f.values w v given elements in
      let inside : m.member (get_or w stranger.index m.bottom) ≡ true = subst (ByMembers m) (sym same) members stranger.index stranger.within in
      let out = stranger.stranger in
      cc

  pub no_fault : (m : Meaning) (v : List ℕ) (n : ℕ) (r : Refusal) → Means f m → Elements m.bottom f.values v → ByMembers m v → FileFault first f n r → ⊥
  no_fault m v n r means elements members fault = no_letter m v (values_record (layer_record first f) f.layer) n r elements members (letter_fault m n r means fault)
