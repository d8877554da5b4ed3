use Rattle.std.proofs.Common.{◌≡◌, ◌<◌, ◌≤◌, true, take, length}
use Rattle.std.specs.List.{list_all}
use Rattle.std.specs.Char.{is_ascii_digit}
use Rattle.std.specs.Str.Parse.{digits_value}
use Rattle.http_face.proofs.fields.length_of.Given as goal

abbrev pub invariant-loop-digit : goal.invariant-loop-digit
invariant-loop-digit l = record {
  value : l.length ≡ digits_value 10 (take l.digit-index l.value);
  digits : list_all is_ascii_digit (take l.digit-index l.value) ≡ true;
  some : 0 < length l.value;
  short : length l.value ≤ 30;
}
