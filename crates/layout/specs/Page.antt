-- The layout page: for each element, in order, how many columns it has, what may be written there in the editions 1, 3 and 4, as document 01
-- lists it under 'Legal texts', and its part in a reading. Where an element starts is worked out from the widths; no other list says it. Assumes nothing.
use Rattle.std.specs.Prelude.{ℕ, ◌+◌, List, [], ◌∷◌, Bool, not, ◌&&◌, ◌||◌, eqb, get_or, take, drop}
use Rattle.text.specs.Bytes.{blank}
use Rattle.text.specs.LegalTexts.{allows}
use Rattle.text.specs.declared.LegalTexts.{LegalTexts}
use Rattle.text.specs.declared.LegalTexts.TheVariants.{Nothing, Printable, Letters, CallSign, DigitOr, Within, Either, OneOf}
use Rattle.layout.specs.declared.Edition.{Edition}
use Rattle.layout.specs.declared.Edition.TheVariants.{One, Three, Four}

-- an element's part in a reading. Most read by themselves: a code, or always a text, or a departure, whose sign stands in the hundreds. Others share one: the digit of
-- the hemispheres and the two coordinates after it are a place, a sign and the temperature after it an amount. Column 111 is the version
pub data Part : Type 0 where
  code : Part
  text : Part
  departure : Part
  hemispheres : Part
  coordinate : Part
  sign : Part
  temperature : Part
  version : Part

-- an element's width, its texts in each edition, and its part
pub record Element : Type 0 where
  pub width : ℕ
  pub in1 : LegalTexts
  pub in3 : LegalTexts
  pub in4 : LegalTexts
  pub part : Part

-- an element whose texts go by the edition, are the same in all, or that edition 1 does not have; and one whose part is not a code's
abbrev pub differing : ℕ → LegalTexts → LegalTexts → LegalTexts → Element
differing w s t u = record { width = w; in1 = s; in3 = t; in4 = u; part = code }

abbrev pub alike : ℕ → LegalTexts → Element
alike w s = differing w s s s

abbrev pub later : ℕ → LegalTexts → LegalTexts → Element
later w t u = differing w Nothing t u

abbrev pub playing : Part → Element → Element
playing p e = record { width = e.width; in1 = e.in1; in3 = e.in3; in4 = e.in4; part = p }

-- a quality control flag: 0..5, 9; edition 4 also 6, 7
abbrev pub flag : Element
flag = differing 1 (Either 0 5 9 9) (Either 0 5 9 9) (Either 0 7 9 9)

abbrev pub later_flag : Element
later_flag = later 1 flag.in3 flag.in4

-- 47 is '/' and 65 is 'A'
unfoldable pub page : List Element
page =
    alike 1 (Within 3 5) ∷  -- 1 iT format/temperature indicator
    alike 4 (Within 0 9999) ∷  -- 2 AAAA year
    alike 2 (Within 1 12) ∷  -- 3 MM month
    alike 2 (Within 1 31) ∷  -- 4 YY day
    alike 2 (Within 0 23) ∷  -- 5 GG hour
    playing hemispheres (differing 1 (Either 0 3 5 8) (OneOf 1 3 5 7) (OneOf 1 3 5 7)) ∷  -- 6 Q octant (table 3300); Qc quadrant (3333)
    playing coordinate (alike 3 (Within 0 900)) ∷  -- 7 latitude
    playing coordinate (alike 4 (Within 0 1800)) ∷  -- 8 longitude
    alike 1 (Within 0 3) ∷  -- 9 how h and VV were measured
    alike 1 (DigitOr 47) ∷  -- 10 h
    alike 2 (Either 0 50 56 99) ∷  -- 11 VV (4377)
    alike 1 (DigitOr 47) ∷  -- 12 N
    alike 2 (Either 0 36 99 99) ∷  -- 13 dd
    alike 1 (OneOf 0 1 3 4) ∷  -- 14 iw (1855)
    alike 2 (Within 0 99) ∷  -- 15 ff
    playing sign (alike 1 (Within 0 1)) ∷  -- 16 sn sign of air temperature
    playing temperature (alike 3 (Within 0 999)) ∷  -- 17 TTT air temperature
    playing sign (alike 1 (Either 0 2 5 7)) ∷  -- 18 sign of dew point
    playing temperature (alike 3 (Within 0 999)) ∷  -- 19 dew point
    alike 4 (Either 0 999 8000 9999) ∷  -- 20 PPPP
    alike 2 (Within 0 99) ∷  -- 21 ww
    alike 1 (Within 0 9) ∷  -- 22 W1
    alike 1 (Within 0 9) ∷  -- 23 W2
    alike 1 (DigitOr 47) ∷  -- 24 Nh
    alike 1 (DigitOr 47) ∷  -- 25 CL
    alike 1 (DigitOr 47) ∷  -- 26 CM
    alike 1 (DigitOr 47) ∷  -- 27 CH
    playing sign (alike 1 (Within 0 1)) ∷  -- 28 sn sign of sea-surface temperature
    playing temperature (alike 3 (Within 0 999)) ∷  -- 29 sea-surface temperature
    alike 1 (Within 0 7) ∷  -- 30 how it was measured
    alike 1 (Within 0 9) ∷  -- 31 how the waves were measured
    alike 2 (Within 0 99) ∷  -- 32 period of wind waves
    alike 2 (Within 0 99) ∷  -- 33 height of wind waves
    alike 2 (Either 0 36 99 99) ∷  -- 34 direction of predominant swell
    alike 2 (Within 0 99) ∷  -- 35 its period
    alike 2 (Within 0 99) ∷  -- 36 its height
    alike 1 (Within 1 5) ∷  -- 37 Is
    alike 2 (Within 0 99) ∷  -- 38 EsEs
    alike 1 (Within 0 4) ∷  -- 39 Rs
    alike 1 (Within 0 6) ∷  -- 40 source of observation
    differing 1 (Within 0 9) (Within 0 9) (Either 0 6 9 9) ∷  -- 41 observation platform
    playing text (alike 7 CallSign) ∷  -- 42 call sign
    playing text (differing 2 (Within 0 99) Letters Letters) ∷  -- 43 country which has recruited the ship
    playing text (alike 1 Printable) ∷  -- 44 national use
    alike 1 (Either 0 6 9 9) ∷  -- 45 quality control indicator
    alike 1 (OneOf 1 4 7 7) ∷  -- 46 ix
    alike 1 (Within 0 4) ∷  -- 47 iR
    alike 3 (Within 1 999) ∷  -- 48 RRR
    alike 1 (Within 0 9) ∷  -- 49 tR
    playing sign (alike 1 (Either 0 2 5 7)) ∷  -- 50 sign of wet bulb
    playing temperature (alike 3 (Within 0 999)) ∷  -- 51 wet bulb
    alike 1 (Within 0 8) ∷  -- 52 a
    alike 3 (Within 0 999) ∷  -- 53 ppp
    alike 1 (DigitOr 47) ∷  -- 54 Ds
    alike 1 (DigitOr 47) ∷  -- 55 vs
    alike 2 (Either 0 36 99 99) ∷  -- 56 direction of secondary swell
    alike 2 (Within 0 99) ∷  -- 57 its period
    alike 2 (Within 0 99) ∷  -- 58 its height
    alike 1 (DigitOr 47) ∷  -- 59 ci
    alike 1 (DigitOr 47) ∷  -- 60 Si
    alike 1 (DigitOr 47) ∷  -- 61 bi
    alike 1 (DigitOr 47) ∷  -- 62 Di
    alike 1 (DigitOr 47) ∷  -- 63 zi
    differing 1 (Within 0 8) (Within 0 8) (DigitOr 65) ∷  -- 64 FM code version
    playing version (differing 1 (Within 1 1) (Within 3 3) (Within 4 4)) ∷  -- 65 IMMT version, column 111
    flag ∷  -- 66 Q1, of h
    flag ∷  -- 67 Q2, of VV
    flag ∷  -- 68 Q3, of clouds
    flag ∷  -- 69 Q4, of dd
    flag ∷  -- 70 Q5, of ff
    flag ∷  -- 71 Q6, of TTT
    flag ∷  -- 72 Q7, of dew point
    flag ∷  -- 73 Q8, of PPPP
    flag ∷  -- 74 Q9, of weather
    flag ∷  -- 75 Q10, of sea-surface temperature
    flag ∷  -- 76 Q11, of period of wind waves
    flag ∷  -- 77 Q12, of height of wind waves
    flag ∷  -- 78 Q13, of swell
    flag ∷  -- 79 Q14, of precipitation
    flag ∷  -- 80 Q15, of a
    flag ∷  -- 81 Q16, of ppp
    flag ∷  -- 82 Q17, of Ds
    flag ∷  -- 83 Q18, of vs
    flag ∷  -- 84 Q19, of wet bulb
    flag ∷  -- 85 Q20, of position
    later 1 (Within 1 5) (Within 1 6) ∷  -- 86 Q21, minimum quality control standard
    later 3 (Within 0 360) (Within 0 360) ∷  -- 87 HDG
    later 3 (Within 0 360) (Within 0 360) ∷  -- 88 COG
    later 2 (Within 0 99) (Within 0 99) ∷  -- 89 SOG
    later 2 (Within 0 99) (Within 0 99) ∷  -- 90 SLL
    playing departure (later 3 (Either 0 99 101 199) (Either 0 99 101 199)) ∷  -- 91 sign and hh
    later 3 (Within 0 360) (Within 0 360) ∷  -- 92 RWD
    later 3 (Within 0 999) (Within 0 999) ∷  -- 93 RWS
    later_flag ∷  -- 94 Q22, of HDG
    later_flag ∷  -- 95 Q23, of COG
    later_flag ∷  -- 96 Q24, of SOG
    later_flag ∷  -- 97 Q25, of SLL
    later_flag ∷  -- 98 Q26, of its sign
    later_flag ∷  -- 99 Q27, of hh
    later_flag ∷  -- 100 Q28, of RWD
    later_flag ∷  -- 101 Q29, of RWS
    []

-- what stands for an element where there is none: no columns, and so nothing in them
abbrev pub none : Element
none = alike 0 Nothing

-- the elements by number, from 1 on
abbrev pub elements : List Element
elements = none ∷ page

unfoldable pub element : ℕ → Element
element e = get_or elements e none

abbrev pub width_of : ℕ → ℕ
width_of e = (element e).width

-- each part has a number of its own; element e has that part
abbrev pub part_number : Part → ℕ
part_number code = 0
part_number text = 1
part_number departure = 2
part_number hemispheres = 3
part_number coordinate = 4
part_number sign = 5
part_number temperature = 6
part_number version = 7

abbrev pub plays : Part → ℕ → Bool
plays p e = eqb (part_number (element e).part) (part_number p)

unfoldable pub is_text : ℕ → Bool
is_text e = plays text e

unfoldable pub is_departure : ℕ → Bool
is_departure e = plays departure e

unfoldable pub is_coordinate : ℕ → Bool
is_coordinate e = plays coordinate e

unfoldable pub is_sign : ℕ → Bool
is_sign e = plays sign e

unfoldable pub is_temperature : ℕ → Bool
is_temperature e = plays temperature e

-- how many columns some elements have
unfoldable pub columns : List Element → ℕ
columns [] = 0
columns (e ∷ es) = e.width + columns es

-- how many columns stand before element e
unfoldable pub start_of : ℕ → ℕ
start_of e = columns (take e elements)

-- the characters of element e in a record
unfoldable pub text_of : ℕ → List ℕ → List ℕ
text_of e xs = take (width_of e) (drop (start_of e) xs)

-- the byte in its first column
abbrev pub first_byte : ℕ → List ℕ → ℕ
first_byte e xs = get_or xs (start_of e) 0

-- the texts of an edition, where s, t and u are those of the editions 1, 3 and 4
abbrev pub in_edition : Edition → LegalTexts → LegalTexts → LegalTexts → LegalTexts
in_edition One s t u = s
in_edition Three s t u = t
in_edition Four s t u = u

abbrev pub legal_texts_in : Edition → Element → LegalTexts
legal_texts_in ed e = in_edition ed e.in1 e.in3 e.in4

-- the legal texts of element e
abbrev pub legal_texts : Edition → ℕ → LegalTexts
legal_texts ed e = legal_texts_in ed (element e)

-- blank is always legal but in elements 1 and 65
abbrev pub may_be_blank : ℕ → Bool
may_be_blank e = not (eqb e 1 || eqb e 65)

-- the text t of element e is blank, where it may be, or legal
abbrev pub legal_text : Edition → ℕ → List ℕ → Bool
legal_text ed e t = (may_be_blank e && blank t) || allows (legal_texts ed e) t

unfoldable pub legal : Edition → List ℕ → ℕ → Bool
legal ed xs e = legal_text ed e (text_of e xs)
