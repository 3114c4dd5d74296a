-- The definitions, computed on moments: 1970-01-01, the standards' example, one that is rounded down, and the days
-- around the end of February.
use Rattle.std.proofs.Common.{◌≡◌, codes, refl}
use Rattle.gentime.specs.{Calendar.civil_date, GenTime.spelling, GenTime.time_of, GenTime.text_of}

first : text_of 0 0 ≡ codes "19700101000000Z"
unfolding text_of spelling time_of civil_date
first = refl

example : text_of 6 928887206343520 ≡ codes "19990609001326.34352Z"
unfolding text_of spelling time_of civil_date
example = refl

example_rounded : text_of 0 928887206343520 ≡ codes "19990609001326Z"
unfolding text_of spelling time_of civil_date
example_rounded = refl

rounded_down : text_of 3 1000000250 ≡ codes "19700101001640Z"
unfolding text_of spelling time_of civil_date
rounded_down = refl

leap_day : text_of 6 951868799999999 ≡ codes "20000229235959.999999Z"
unfolding text_of spelling time_of civil_date
leap_day = refl

no_leap_day : text_of 6 4107542400000000 ≡ codes "21000301000000Z"
unfolding text_of spelling time_of civil_date
no_leap_day = refl
