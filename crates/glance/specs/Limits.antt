-- The limits of the numbers on the page, as the bytes of their columns stand. Assumes nothing.
use Rattle.std.specs.Prelude.{ℕ, ◌+◌, ◌≡◌, List, Bool, true, cond, leb, replicate}
use Rattle.text.specs.Bytes.{number, word}
use Rattle.text.specs.declared.LegalTexts.{LegalTexts}
use Rattle.text.specs.declared.LegalTexts.TheVariants.{Nothing, Printable, Letters, CallSign, DigitOr, Within, Either, OneOf}
use Rattle.numerals.specs.Numerals.{spelled}
use Rattle.layout.specs.Page.{element, width_of, text_of}
use Rattle.glance.specs.Tests.{in_limit}

pub record Limit : Type 0 where
  pub top : ℕ
  pub gap : ℕ
  pub end : ℕ

abbrev pub limit : ℕ → ℕ → ℕ → Limit
limit t g e = record { top = t; gap = g; end = e }

-- a number in w columns as their bytes say it; and the greatest of them, where nines are within it no limit at all
abbrev pub in_columns : ℕ → ℕ → ℕ
in_columns w n = word (spelled 10 48 w n)

abbrev pub nines : ℕ → ℕ
nines w = number (replicate w 57)

abbrev pub top_of : ℕ → ℕ → ℕ
top_of w n = cond (leb (nines w) n) 4294967295 (in_columns w n)

-- the limits of texts that are numbers in w columns; others have none
unfoldable pub limit_of : ℕ → LegalTexts → Limit
limit_of w (Within a b) = limit (top_of w b) (in_columns w 0) (in_columns w a)
limit_of w (Either a b c d) = limit (top_of w d) (in_columns w (b + 1)) (in_columns w c)
limit_of w Nothing = limit 0 0 0
limit_of w Printable = limit 0 0 0
limit_of w Letters = limit 0 0 0
limit_of w CallSign = limit 0 0 0
limit_of w (DigitOr x) = limit 0 0 0
limit_of w (OneOf a b c d) = limit 0 0 0

abbrev pub limits : Limit → ℕ → Bool
limits l n = in_limit l.top l.gap l.end n

-- the number in element e lies within the limits of its texts, which are the same in every edition that has it
abbrev pub Limited : List ℕ → ℕ → Type 0
Limited xs e = limits (limit_of (width_of e) (element e).in4) (word (text_of e xs)) ≡ true
