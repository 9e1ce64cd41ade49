-- The worked examples, computed.
-- Assumes nothing.
use mathlib.Core.Path.{refl}
use mathlib.Core.Bool.{Bool}
use Prim.Native.Nat.{ℕ}
use lib.Dec.{eqb, eqb→eq}
use lib.ListN.{get_or}
use Rattle.line.proofs.Table.{at}
use Rattle.line.specs.Symbol.{symbol_of, place_of, nibble_of, is_nibble, encoded, octets_of}
use Rattle.line.specs.Kind.{set_of, carries, common, kind_from}
use Rattle.line.specs.Crc.{poly, crc_bit, crc_bits, crc_octet, crc_from, crc_of, four_octets, with_crc, number, crc_right}
use Rattle.line.specs.Frame.{drawn, sealed, symbols_of}
use Rattle.line.specs.Refusal.{first_no}
use Rattle.line.specs.Read.{agree, agreeing, single, taken_or, set_at, nibble_run, may_end, end_or, body_at, with_set, shape_behind, checked, first_of, after_set, first}
use Rattle.line.specs.Reader.{says_of}
use Rattle.line.specs.Examples.{nibbles_of_symbols, Examples}

is_listed : ℕ → Bool
is_listed s = eqb (nibble_of s) (get_or nibbles_of_symbols s 16)

pub examples : Examples
unfolding is_listed symbol_of place_of nibble_of is_nibble encoded octets_of set_of carries poly crc_bit crc_bits crc_octet crc_from crc_of four_octets with_crc drawn sealed symbols_of first_no common kind_from agree agreeing single taken_or set_at nibble_run may_end end_or body_at with_set shape_behind number crc_right checked first_of after_set first says_of
examples =
    record {
      every_octet = λ s h. eqb→eq (nibble_of s) (get_or nibbles_of_symbols s 16) (at is_listed 256 tt s h);
      nothing = refl;
      three_symbols = refl;
      no_set = refl;
      several = refl;
      doubtful = refl;
      two_changed = refl;
      reset = refl;
      near_reset = refl;
      near_sop = refl;
      eop_after_half = refl;
      eop_too_soon = refl;
      octet_35 = refl;
      cut_off = refl;
      no_symbol = refl;
      wrong_crc = refl;
      room_72 = refl;
      room_33 = λ line after at r h. h.says;
      check_value = refl;
      tank_long = refl;
      tank_set = refl;
      tank_end = refl;
    }
