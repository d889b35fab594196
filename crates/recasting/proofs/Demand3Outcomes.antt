-- Demand 3, of the call: an accepted record with an edition that is held and room for it is recast, and what stands in the lent buffer then is what demand 3 says. A
-- refused call changes no byte and has an empty loss set; an outcome and a buffer fit exactly where they are the ones answered. Assumes nothing.
use Rattle.std.specs.Prelude.{Err, None, Ok, Option, Some}
use mathlib.Core.Path.{◌≡◌, refl, sym, ap, ◌∙◌}
use mathlib.Core.Logic.{◌⊎◌, ◌↔◌}
use mathlib.Core.Bool.{Bool, true, false}
use mathlib.Core.List.{List, [], ◌∷◌}
use Prim.Native.Nat.{ℕ, ◌<◌, ◌≤◌}
use native.Mathlib.Omega.{arith}
use borrow.Author.Tests.{eqb-true, leb-true, leb-false}
use lib.Dec.{eqb, leb}
use lib.ListN.{length, take, drop}
use lib.Seq.{take_at, drop_at}
use Rattle.text.specs.Bytes.{blank}
use Rattle.element_sets.specs.ElementSets.{no_elements, set_of, list_of}
use Rattle.element_sets.specs.declared.ElementSet.{ElementSet}
use Rattle.element_sets.proofs.Demand3Losses.{same_losses}
use Rattle.layout.specs.declared.Edition.{Edition}
use Rattle.refusals.specs.declared.Refusal.{Refusal}
use Rattle.refusals.specs.declared.Refusal.TheVariants.{Unheld, Room}
use Rattle.refusals.specs.Lent.{Call, refusing, writing, in_room, verdict_of, front_of, overwritten, left_by}
use Rattle.refusals.proofs.LentLaws as Lent
use Rattle.refusals.proofs.LentLaws.{has_room, lacks_room, Wrote, fine_means}
use Rattle.layout.specs.Editions.{asked, length_of}
use Rattle.layout.specs.Page.{text_of}
use Rattle.ties.specs.Ties.{there}
use Rattle.checking.specs.Check.{Answer}
use Rattle.checking.specs.Check.{checked}
use Rattle.checking.specs.Acceptable.{Acceptable}
use Rattle.checking.proofs.Demand1Refusals.{fits, only_one}
use Rattle.checking.proofs.Demand2Acceptance.{accepted_exactly}
use Rattle.meanings.specs.Meaning.{meaning_of}
use Rattle.meanings.specs.Kept.{lost_at}
use Rattle.recasting.specs.Recast.{digit_of, recast_record, recast_to, recast_after, recast_of, losses_in, Outcome, outcome_of, outcome_in, verdict_said, losses_said, done, unrecast}
use Rattle.meanings.specs.Lost.{Expressible}
use Rattle.recasting.specs.Fits.{Names, Fits, refused, unheld, cramped, recast}
use Rattle.recasting.proofs.ResultLaws.{result_long}
use Rattle.recasting.proofs.NeverLaws as Never
use Rattle.recasting.proofs.FitLaws.{result_fits, only_record}
use Rattle.recasting.proofs.Demand3Accepted.{version_text, recast_is_accepted}
use Rattle.recasting.proofs.Demand3Meaning.{kept_or_blank, blank_exactly, lost_exactly}
use Rattle.recasting.proofs.Demand3Losses.{Listed, losses_listed}

-- What a call that succeeds leaves in the lent buffer: a record in front, and behind it what stood there.
abbrev pub after : List ℕ → ℕ → List ℕ → List ℕ
after xs edition before = left_by (recast_of xs edition) before

abbrev pub front : Edition → List ℕ → ℕ → List ℕ → List ℕ
front to xs edition before = take (length_of to) (after xs edition before)

pub record Success (xs : List ℕ) (edition : ℕ) (before : List ℕ) (losses : ElementSet) : Type 0 where
  pub from : Edition
  pub to : Edition
  pub was : checked xs ≡ Ok from
  pub names : asked edition ≡ Some to
  -- the target edition accepts it
  pub accepted : checked (front to xs edition before) ≡ Ok to
  -- column 111 is the target's digit; every other element has its old meaning or is blank, and is blank exactly when no legal text of the target has its meaning
  pub version : text_of 65 (front to xs edition before) ≡ digit_of to ∷ []
  pub means : (e : ℕ) → 1 ≤ e → e ≤ 101 → eqb e 65 ≡ false →
      (meaning_of to (front to xs edition before) e ≡ meaning_of from xs e) ⊎ (blank (text_of e (front to xs edition before)) ≡ true)
  pub blanks : (e : ℕ) → 1 ≤ e → e ≤ 101 → eqb e 65 ≡ false → there (text_of e xs) ≡ true →
      (blank (text_of e (front to xs edition before)) ≡ true) ↔ (Expressible from to xs e → ⊥)
  -- the losses are those of a list of just those elements
  pub list : List ℕ
  pub listed : Listed from to xs losses list
  -- the rest of the buffer is as it was
  pub rest : drop (length_of to) (after xs edition before) ≡ drop (length_of to) before

module _ (from to : Edition) (xs : List ℕ) (edition : ℕ) (before : List ℕ) (ok : checked xs ≡ Ok from) (names : asked edition ≡ Some to) where
  fine : Acceptable from xs
  fine = (accepted_exactly xs from).0 ok

  long : length (recast_record from to xs) ≡ length_of to
  long = result_long from to xs fine

  comes_to : recast_of xs edition ≡ writing (set_of (lost_at from to xs)) (recast_record from to xs)
  unfolding recast_after recast_to
  comes_to = rw (ok, names)

  -- no room for it: the call refuses
  lacking : length before < length_of to → in_room (length before) (recast_of xs edition) ≡ refusing Room
  lacking h = ap (in_room (length before)) comes_to ∙ lacks_room (set_of (lost_at from to xs)) (recast_record from to xs) (length before) (omega (arith, long))

  module _ (room : length_of to ≤ length before) where
    fitting : in_room (length before) (recast_of xs edition) ≡ writing (set_of (lost_at from to xs)) (recast_record from to xs)
    fitting = ap (in_room (length before)) comes_to ∙ has_room (set_of (lost_at from to xs)) (recast_record from to xs) (length before) (omega (arith, long))

    -- an accepted record, an edition that is held and room for it: the call succeeds
    pub succeeds : outcome_in (length before) (recast_of xs edition) ≡ done (set_of (lost_at from to xs))
    succeeds = ap outcome_of fitting

    filled : after xs edition before ≡ overwritten (recast_record from to xs) before
    filled = ap (λ (c : Call ElementSet). overwritten (front_of c) before) fitting

    pub is_front : front to xs edition before ≡ recast_record from to xs
    is_front = ap (take (length_of to)) filled ∙ take_at (recast_record from to xs) (drop (length (recast_record from to xs)) before) (length_of to) long

    as_demanded : Success xs edition before (set_of (lost_at from to xs))
    as_demanded = record {
      from = from;
      to = to;
      was = ok;
      names = names;
      accepted = ap checked is_front ∙ recast_is_accepted from to xs ok;
      version = ap (text_of 65) is_front ∙ version_text from to xs fine;
      means = λ e h l o. rw is_front (kept_or_blank from to xs fine e h l o);
      blanks = λ e h l o t. rw is_front (blank_exactly from to xs fine e h l o t);
      list = list_of (lost_at from to xs);
      listed = losses_listed from to xs fine;
      rest =
          ap (drop (length_of to)) filled ∙ drop_at (recast_record from to xs) (drop (length (recast_record from to xs)) before) (length_of to) long ∙
          ap (λ (n : ℕ). drop n before) long;
    }

-- what an outcome says is what the call comes to: its verdict, and the elements lost
pub verdict_told : (c : Call ElementSet) → verdict_said (outcome_of c) ≡ verdict_of c
verdict_told (refusing r) = refl
verdict_told (writing losses bytes) = refl

pub losses_told : (c : Call ElementSet) → losses_said (outcome_of c) ≡ losses_in c
losses_told (refusing r) = refl
losses_told (writing losses bytes) = refl

-- a call that succeeds has done what demand 3 says
pub success : (xs : List ℕ) (edition : ℕ) (before : List ℕ) (losses : ElementSet) → outcome_in (length before) (recast_of xs edition) ≡ done losses → Success xs edition before losses
unfolding recast_after recast_to
success xs edition before losses d = by (checked xs) refl (asked edition) refl (fine_means (length before) (recast_of xs edition) (sym (verdict_told (in_room (length before) (recast_of xs edition))) ∙ ap verdict_said d))
  where
    by : (c : Answer) → checked xs ≡ c → (n : Option Edition) → asked edition ≡ n → Wrote (recast_of xs edition) (length before) → Success xs edition before losses
    by (Err r) e n f w = let g : refusing r ≡ writing w.says w.bytes = rw e at w.is in let z : ◌≡◌ {A = ℕ} 0 1 = cc in absurd (omega arith)
    by (Ok from) e None f w = let g : refusing Unheld ≡ writing w.says w.bytes = rw (e, f) at w.is in let z : ◌≡◌ {A = ℕ} 0 1 = cc in absurd (omega arith)
    by (Ok from) e (Some to) f w =
        let g : writing (set_of (lost_at from to xs)) (recast_record from to xs) ≡ writing w.says w.bytes = rw (e, f) at w.is in
        let bytes : recast_record from to xs ≡ w.bytes = cc in
        let room : length_of to ≤ length before = omega (arith, w.fits, ap length bytes, long from to xs edition before e f) in
        let said : done (set_of (lost_at from to xs)) ≡ done losses = sym (succeeds from to xs edition before e f room) ∙ d in
        let same : set_of (lost_at from to xs) ≡ losses = cc in
        rw (← same) (as_demanded from to xs edition before e f room)

-- a refused call leaves the lent buffer as it was, and its loss set is empty
pub refused_untouched : (xs : List ℕ) (edition : ℕ) (before : List ℕ) (r : Refusal) → outcome_in (length before) (recast_of xs edition) ≡ unrecast r →
    (after xs edition before ≡ before) × ((losses_said (outcome_in (length before) (recast_of xs edition)) ≡ no_elements) × (losses_in (in_room (length before) (recast_of xs edition)) ≡ no_elements))
refused_untouched xs edition before r e =
    let c = in_room (length before) (recast_of xs edition) in
    let none : losses_said (outcome_of c) ≡ no_elements = ap losses_said e in
    (Lent.refused_untouched (recast_of xs edition) before r (sym (verdict_told c) ∙ ap verdict_said e), (none, sym (losses_told c) ∙ none))

-- what is answered fits, and nothing else does
module _ (xs : List ℕ) (edition : ℕ) (before : List ℕ) where
  abbrev pub Is : Outcome → List ℕ → Type 0
  Is o left = (o ≡ outcome_in (length before) (recast_of xs edition)) × (left ≡ after xs edition before)

  names_lost : (from to : Edition) (a : Acceptable from xs) (losses : ElementSet) → Names from to xs losses → losses ≡ set_of (lost_at from to xs)
  names_lost from to a losses n = n.words ∙ same_losses n.test (lost_at from to xs) same
    where
      equal : (x y : Bool) → (x ≡ true → y ≡ true) → (y ≡ true → x ≡ true) → x ≡ y
      equal true y f g = sym (f refl)
      equal false true f g = g refl
      equal false false f g = refl

      same : (e : ℕ) → 1 ≤ e → e ≤ 101 → n.test e ≡ lost_at from to xs e
      same e h l = by (eqb e 65) refl
        where
          by : (x : Bool) → eqb e 65 ≡ x → n.test e ≡ lost_at from to xs e
          by true p = rw (eqb-true e 65 p) (n.version ∙ sym (Never.version from to xs a))
          by false p =
              equal (n.test e) (lost_at from to xs e) (λ t. (lost_exactly from to xs a e h l p).1 ((n.exactly e h l p).0 t)) (λ t. (n.exactly e h l p).1 ((lost_exactly from to xs a e h l p).0 t))

  one : (o : Outcome) (left : List ℕ) → Fits xs edition before o left → Is o left
  unfolding recast_after recast_to in_room
  one o left (refused r f) = let c : checked xs ≡ Err r = only_one xs (checked xs) (Err r) (fits xs) f in rw c (refl, refl)
  one o left (unheld from a n) = let c = (accepted_exactly xs from).1 a in rw (c, n) (refl, refl)
  one o left (cramped from to a n h) =
      let c = lacking from to xs edition before ((accepted_exactly xs from).1 a) n h in
      (ap outcome_of (sym c), ap (λ (q : Call ElementSet). overwritten (front_of q) before) (sym c))
  one o left (recast from to a n h ys r losses l) =
      let c = fitting from to xs edition before ((accepted_exactly xs from).1 a) n h in (
        ap done (names_lost from to a losses l) ∙ ap outcome_of (sym c),
        ap (λ (t : List ℕ). overwritten t before) (only_record from to xs a ys r) ∙ ap (λ (q : Call ElementSet). overwritten (front_of q) before) (sym c),
      )

  those : (from to : Edition) (a : Acceptable from xs) → Names from to xs (set_of (lost_at from to xs))
  those from to a = record { test = lost_at from to xs; words = refl; version = Never.version from to xs a; exactly = lost_exactly from to xs a }

  in_target : (from to : Edition) → checked xs ≡ Ok from → asked edition ≡ Some to → (x : Bool) → leb (length_of to) (length before) ≡ x →
      Fits xs edition before (outcome_in (length before) (recast_of xs edition)) (after xs edition before)
  in_target from to e f true h =
      let a = (accepted_exactly xs from).0 e in
      let room = leb-true (length_of to) (length before) h in
      rw (fitting from to xs edition before e f room) (recast from to a f room (recast_record from to xs) (result_fits from to xs a) (set_of (lost_at from to xs)) (those from to a))
  in_target from to e f false h =
      let tight = leb-false (length_of to) (length before) h in
      rw (lacking from to xs edition before e f tight) (cramped from to ((accepted_exactly xs from).0 e) f tight)

  answered : (c : Answer) → checked xs ≡ c → (n : Option Edition) → asked edition ≡ n → Fits xs edition before (outcome_in (length before) (recast_of xs edition)) (after xs edition before)
  unfolding recast_after recast_to in_room
  answered (Err r) e n f = rw e (refused r (rw e at (fits xs)))
  answered (Ok from) e None f = rw (e, f) (unheld from ((accepted_exactly xs from).0 e) f)
  answered (Ok from) e (Some to) f = in_target from to e f (leb (length_of to) (length before)) refl

  pub fits_exactly : (o : Outcome) (left : List ℕ) → Fits xs edition before o left ↔ Is o left
  fits_exactly o left = (one o left, λ i. rw (i.0, i.1) (answered (checked xs) refl (asked edition) refl))

  pub two_that_fit : (o p : Outcome) (left other : List ℕ) → Fits xs edition before o left → Fits xs edition before p other → (o ≡ p) × (left ≡ other)
  two_that_fit o p left other f g = let i = one o left f in let j = one p other g in (i.0 ∙ sym j.0, i.1 ∙ sym j.1)
