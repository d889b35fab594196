-- Request 2: a place that is no multiple of ten in both numbers is refused. No legal texts give it, so write answers 6 with element 6, or with a lower element
-- whose reading none give either. Assumes nothing.
use Rattle.std.proofs.Common.{Err, Some}
use mathlib.Core.Path.{◌≡◌, refl, sym, ap, ◌∙◌}
use mathlib.Core.Bool.{Bool, true, false}
use mathlib.Core.List.{List}
use Prim.Native.Nat.{ℕ, ◌+◌, ◌%◌, ◌<◌, ◌≤◌}
use native.Mathlib.Omega.{arith}
use borrow.Author.Tests.{leb-true, leb-false}
use lib.Dec.{leb, lit≤}
use lib.IntN.{nat_abs}
use Rattle.layout.specs.declared.Edition.{Edition}
use Rattle.refusals.specs.declared.Refusal.TheVariants.{Illegal}
use Rattle.refusals.specs.Lent.{in_room, verdict_in, Call, Quiet}
use Rattle.layout.specs.Editions.{asked}
use Rattle.layout.specs.Page.{text_of, element, is_coordinate, is_temperature, page}
use Rattle.places.specs.declared.Place.{Place}
use Rattle.places.specs.Places.{Tens}
use Rattle.reading.specs.declared.Reading.{Reading}
use Rattle.reading.specs.declared.Reading.TheVariants.{At}
use Rattle.reading.specs.Readings.{place_of, lead, item_of}
use Rattle.reading.proofs.Request2Readings.{gives_tens}
use Rattle.spelling.specs.Spelled.{given}
use Rattle.writing.specs.Written.{written_in, written_as, written}
use Rattle.writing.specs.Givable.{Givable, Ungivable}
use Rattle.writing.proofs.DoneLaws.{WritesBelow, Judged, unwritable, breaking, kept, judged}
use Rattle.writing.proofs.Demand2Refused.{by_record, lowest_ungivable, refused_exactly}

-- refusal 6 at element 6 or a lower one
pub record By6 (rs : List Reading) (edition room : ℕ) : Type 0 where
  pub element : ℕ
  pub at_most : element ≤ 6
  pub is : verdict_in room (written rs edition) ≡ Err (Illegal element)

-- a place given for element 6, 7 or 8
module _ (ed : Edition) (rs : List Reading) (f : ℕ) (low : 1 ≤ f) (high : f ≤ 101) (shared : lead f ≡ 6) (p : Place) (gave : given rs f ≡ At p) where
  -- what legal texts give is a multiple of ten
  tens_given : Givable ed rs 6 → Tens p
  unfolding item_of is_coordinate is_temperature element page
  tens_given g =
      let reads : place_of ed (text_of 6 g.text) (text_of 7 g.text) (text_of 8 g.text) ≡ At p = sym (rw shared) ∙ g.reads f low high shared ∙ gave in
      gives_tens ed (text_of 6 g.text) (text_of 7 g.text) (text_of 8 g.text) p reads

  pub latitude_off : (nat_abs p.latitude % 10 ≡ 0 → ⊥) → Givable ed rs 6 → ⊥
  latitude_off off g = off (tens_given g).latitude

  pub longitude_off : (p.longitude % 10 ≡ 0 → ⊥) → Givable ed rs 6 → ⊥
  longitude_off off g = off (tens_given g).longitude

  -- 6 with element 6, where legal texts give the readings before it
  pub refused_6 : (Tens p → ⊥) → ((j : ℕ) → 1 ≤ j → j < 6 → Givable ed rs j) → (edition room : ℕ) → asked edition ≡ Some ed → verdict_in room (written rs edition) ≡ Err (Illegal 6)
  unfolding written_as is_coordinate is_temperature element page
  refused_6 off earlier edition room e = rw e ((refused_exactly ed rs 6 room).1 (record { low = lit≤ tt; leads = refl; none = λ g. off (tens_given g); earlier = earlier }))

  -- and whatever the other readings are, 6 with an element no higher
  pub refused_by_6 : (Tens p → ⊥) → (edition room : ℕ) → asked edition ≡ Some ed → By6 rs edition room
  unfolding written_as in_room
  refused_by_6 off edition room e = by _ refl (judged ed rs)
    where
      none : Givable ed rs 6 → ⊥
      none g = off (tens_given g)

      every_written : WritesBelow ed rs (1 + 101) → By6 rs edition room
      every_written all = absurd (none (by_record ed rs 6 (λ e l h s. all e l (omega arith))))

      by : (c : Call Quiet) → written_in ed rs ≡ c → Judged ed rs c → By6 rs edition room
      by c w (unwritable m a b x below) =
          let lowest = lowest_ungivable ed rs m a (omega arith) x below in
          record { element = lead m; at_most = up_to_6 lowest; is = rw e (ap (verdict_in room) w) }
        where
          up_to_6 : Ungivable ed rs (lead m) → lead m ≤ 6
          up_to_6 u = decide_le (leb (lead m) 6) refl
            where
              decide_le : (t : Bool) → leb (lead m) 6 ≡ t → lead m ≤ 6
              decide_le true y = leb-true _ _ y
              decide_le false y = absurd (none (u.earlier 6 (lit≤ tt) (leb-false _ _ y)))
      by c w (breaking f m x g) = every_written f
      by c w (kept f g) = every_written f
