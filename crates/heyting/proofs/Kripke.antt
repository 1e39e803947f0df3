-- The algebra that a table of worlds makes is told by the table, world by world.
use Rattle.std.proofs.Common.{◌≡◌, ℕ, ◌^◌, ◌<◌, Bool, true, ◌&&◌, sym, refl, ◌∙◌}
use Rattle.std.proofs.lemmas.Bool.{and_parts, and_from, ltb-true, lt-ltb}
use Rattle.heyting.specs.Loading.{InRange}
use Rattle.heyting.specs.Meaning.{Lawful}
use Rattle.heyting.specs.Tables.{implies, kripke, reflexive, transitive}
use Rattle.heyting.specs.Worlds.{holds, OfWorlds}
use Rattle.heyting.proofs.Frames.{worlds_lawful}
use Rattle.heyting.proofs.Sets.{each_at, each_from, collect_lt, collect_at, implies_at, implies_from}

module _ (n : ℕ) (above : ℕ → ℕ → Bool) where
  pub kripke_worlds : OfWorlds n (λ u v. above u v ≡ true) (kripke n above)
  kripke_worlds = record {
    span_is = refl;
    bottom_is = refl;
    top_is = refl;
    member_is = λ a. (
      λ e. let p = and_parts _ _ e in (ltb-true a (2 ^ n) p.0, λ u v hu hv k h. implies_at _ _ (each_at _ n v (each_at _ n u p.1 hu) hv) (and_from (holds a u) (above u v) h k)),
      λ p. and_from _ _ (lt-ltb a (2 ^ n) p.0) (each_from _ n (λ u hu. each_from _ n (λ v hv. implies_from _ _ (λ e. let q = and_parts (holds a u) (above u v) e in p.1 u v hu hv q.1 q.0)))),
    );
    meet_is = λ a b. refl;
    join_is = λ a b. refl;
    arrow_below = λ a b. collect_lt _ n;
    arrow_is = λ a b u hu. (
      λ e v hv k h. implies_at _ _ (each_at (λ v. implies (above u v && holds a v) (holds b v)) n v (sym (collect_at _ n u hu) ∙ e) hv) (and_from (above u v) (holds a v) k h),
      λ f. collect_at _ n u hu ∙ each_from _ n (λ v hv. implies_from _ _ (λ e. let p = and_parts (above u v) (holds a v) e in f v hv p.0 p.1)),
    );
  }

  module _ (ordered : (reflexive n above && transitive n above) ≡ true) where
    pub refl_at : (u : ℕ) → u < n → above u u ≡ true
    refl_at u h = each_at (λ u. above u u) n u (and_parts (reflexive n above) (transitive n above) ordered).0 h

    pub trans_at : (u v w : ℕ) → u < n → v < n → w < n → above u v ≡ true → above v w ≡ true → above u w ≡ true
    trans_at u v w hu hv hw p q =
        implies_at _ _ (each_at _ n w (each_at _ n v (each_at _ n u (and_parts (reflexive n above) (transitive n above) ordered).1 hu) hv) hw) (and_from (above u v) (above v w) p q)

    pub kripke_lawful : InRange n → Lawful (kripke n above)
    kripke_lawful range = worlds_lawful n _ (kripke n above) kripke_worlds range refl_at trans_at
