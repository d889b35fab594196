-- What the glance's tests say together: every element is legal and every tie holds. Assumes nothing.
use mathlib.Core.Path.{◌≡◌, subst}
use mathlib.Core.List.{List}
use Prim.Native.Nat.{ℕ}
use lib.ListN.{length}
use Rattle.layout.specs.declared.Edition.{Edition}
use Rattle.std.proofs.Common.{Some}
use Rattle.layout.specs.Editions.{edition_of, length_of}
use Rattle.layout.specs.Page.{first_byte}
use Rattle.columns.specs.Tables.{Shared, Own}
use Rattle.columns.proofs.Ranges.{cover}
use Rattle.glance.specs.Sure.{dates, places, winds, falls, Alike, Rest, Sure}
use Rattle.glance.proofs.Lawful.{join, lawful}
use Rattle.glance.proofs.Tied.{tied}

-- the edition that was said
pub said : (xs : List ℕ) (ed other : Edition) → Some ed ≡ Some other → Sure ed xs → Sure other xs
said xs ed other e s = let f : ed ≡ other = cc in subst (λ (d : Edition). Sure d xs) f s

-- all that the tests say, together
pub surely_sound : (ed : Edition) (xs : List ℕ) → length xs ≡ length_of ed → edition_of (first_byte 65 xs) ≡ Some ed → Shared xs → Alike xs → Own ed xs → Rest ed xs → Sure ed xs
surely_sound ed xs full named s a o r =
    let cols = cover ed xs s o in
    let nums = join _ dates _ a.0 (join _ places _ a.1.0 (join _ winds falls a.1.1.0 a.1.1.1.0)) in
    let all = lawful ed xs full named cols nums a.1.1.1.1.0 r in
    record { full = full; lawful = all; tied = tied ed xs full cols all a.1.1.1.1.1.0 a.1.1.1.1.1.1 r }
