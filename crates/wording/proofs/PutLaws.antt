-- Texts put one after the other, and what is left of one that is put bit by bit. Assumes nothing.
use mathlib.Core.Path.{◌≡◌, refl, sym, ap, ◌∙◌}
use mathlib.Core.List.{List, [], ◌++◌}
use Prim.Native.Nat.{ℕ, ◌+◌, ◌≤◌}
use native.Mathlib.Omega.{arith}
use lib.ListN.{length, take, length-append}
use Rattle.numerals.specs.Numerals.{placed}
use Rattle.numerals.proofs.PlacedLaws.{placed_front, placed_none, placed_twice}
use Rattle.wording.specs.declared.sheet.Sheet.{Sheet}
use Rattle.wording.specs.Puts.{Puts, Adds}

-- a text, and another right after it
pub also : {t u : List ℕ} {at : ℕ} {before after last : List ℕ} {next end : ℕ} → Puts t at before after next → Puts u next after last end → end ≤ length before →
    Puts (t ++ u) at before last end
also {t} {u} {at} {before} {after} {last} {next} {end} p q h =
    let room : at + length t + length u ≤ length before = omega (arith, p.ends, q.ends) in
    record {
      stands = q.stands ∙ rw (p.ends, p.stands) (placed_twice at t u before room);
      ends = omega (arith, p.ends, q.ends, length-append t u);
    }

-- a text by another name
pub renamed : {t u : List ℕ} {at : ℕ} {before after : List ℕ} {end : ℕ} → t ≡ u → Puts t at before after end → Puts u at before after end
renamed e p = rw e at p

-- what stands at the front after a text was put there is the text
pub front : {text before after : List ℕ} {end : ℕ} → Puts text 0 before after end → take end after ≡ text
front {text} {before} {after} {end} p =
    let long : end ≡ length text = omega (arith, p.ends) in
    ap (λ (k : ℕ). take k after) long ∙ ap (take (length text)) p.stands ∙ placed_front text before

-- nothing is put
pub nothing : (at : ℕ) (before : List ℕ) → Puts [] at before before at
nothing at before = record { stands = sym (placed_none at before); ends = omega arith }

-- a text on a sheet, and another right after it: the sheet is written as far as the first left it, in the same buffer
pub then_at : {t u : List ℕ} {m n : ℕ} {before between from after : Sheet} → Adds t m before between → from.end ≡ between.end → from.out ≡ between.out → Adds u n from after →
    Adds (t ++ u) (m + n) before after
then_at {after = after} p e b q =
    record {
      same_buffer = q.same_buffer ∙ ap (λ o. o.ghost_name) b ∙ p.same_buffer;
      same_length = q.same_length ∙ ap (λ o. length o.now) b ∙ p.same_length;
      puts = also p.puts (rw (e, b) at q.puts) (omega (arith, p.same_length, q.same_length, ap (λ o. length o.now) b, after.within));
      upper_bound = omega (arith, p.upper_bound, q.upper_bound, e);
    }

-- the same where the sheet is the one that the first left; there is no need to look into it for that
pub then : {t u : List ℕ} {m n : ℕ} {before between after : Sheet} → Adds t m before between → Adds u n between after → Adds (t ++ u) (m + n) before after
then p q = then_at p refl refl q

-- nothing is put on a sheet
pub unchanged : (s : Sheet) → Adds [] 0 s s
unchanged s = record { same_buffer = refl; same_length = refl; puts = nothing _ _; upper_bound = omega arith }

-- a text on a sheet by another name, and within a larger bound
pub said_as : {t u : List ℕ} {m n : ℕ} {before after : Sheet} → t ≡ u → m ≤ n → Adds t m before after → Adds u n before after
said_as e l p = record { same_buffer = p.same_buffer; same_length = p.same_length; puts = renamed e p.puts; upper_bound = omega (arith, p.upper_bound) }

-- within a larger bound
pub within : {t : List ℕ} {m n : ℕ} {before after : Sheet} → m ≤ n → Adds t m before after → Adds t n before after
within l p = said_as refl l p

-- Some of a text is put on a sheet, and `rest` is left of it: putting the rest gives what putting the whole gives.
pub record Left (whole : List ℕ) (before : Sheet) (rest : List ℕ) (now : Sheet) : Type 0 where
  pub same_buffer : now.out.ghost_name ≡ before.out.ghost_name
  pub same_length : length now.out.now ≡ length before.out.now
  pub placing : placed now.end rest now.out.now ≡ placed before.end whole before.out.now
  pub ending : now.end + length rest ≡ before.end + length whole

pub left_all : (whole : List ℕ) (s : Sheet) → Left whole s whole s
left_all whole s = record { same_buffer = refl; same_length = refl; placing = refl; ending = refl }

module _ {whole : List ℕ} {before now : Sheet} where
  pub left_put : {t rest left : List ℕ} {m : ℕ} {later : Sheet} → Left whole before left now → left ≡ t ++ rest → Adds t m now later → before.end + length whole ≤ length before.out.now →
      Left whole before rest later
  left_put {t} {rest} {left} {later = later} l e p h =
      let sum : length left ≡ length t + length rest = ap length e ∙ length-append t rest in
      let room : now.end + length t + length rest ≤ length now.out.now = omega (arith, l.ending, l.same_length) in
      record {
        same_buffer = p.same_buffer ∙ l.same_buffer;
        same_length = p.same_length ∙ l.same_length;
        placing = rw (p.puts.ends, p.puts.stands) (placed_twice now.end t rest now.out.now room ∙ ap (λ (s : List ℕ). placed now.end s now.out.now) (sym e) ∙ l.placing);
        ending = omega (arith, p.puts.ends, l.ending);
      }

  pub left_end : {left : List ℕ} → Left whole before left now → left ≡ [] → Adds whole (length whole) before now
  left_end {left} l e =
      let none : length left ≡ 0 = ap length e in
      let ends : now.end ≡ before.end + length whole = omega (arith, l.ending) in
      record {
        same_buffer = l.same_buffer;
        same_length = l.same_length;
        puts = record { stands = sym (placed_none now.end now.out.now) ∙ ap (λ (s : List ℕ). placed now.end s now.out.now) (sym e) ∙ l.placing; ends = ends };
        upper_bound = omega (arith, ends);
      }
