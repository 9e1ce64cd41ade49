-- The cases, computed.
-- Assumes nothing.
use mathlib.Core.Path.{refl}
use Rattle.line.specs.Symbol.{symbol_of, place_of, nibble_of, is_nibble, encoded, octets_of}
use Rattle.line.specs.Kind.{set_of, carries, common, kind_from}
use Rattle.line.specs.Crc.{poly, crc_bit, crc_bits, crc_octet, crc_from, crc_of, four_octets, number, crc_right}
use Rattle.line.specs.Frame.{drawn}
use Rattle.line.specs.Read.{agree, agreeing, single, taken_or, set_at, nibble_run, may_end, end_or, body_at, with_set, shape_behind, checked, first_of, after_set, first}
use Rattle.reader.specs.Walk.{ends, before, onward, walk_for, walk, drawn_all}
use Rattle.text.specs.Hex as hex
use Rattle.text.specs.Put.{decimal_of, spaced, octets_text}
use Rattle.listing.specs.Form.{ended, broken, symbol_then, gap_then, symbols_in, recorded}
use Rattle.listing.specs.Lines.{place_text, mark_text, frame_text, no_text, bad_octet_text}
use Rattle.listing.specs.Listed.{frames_text, short_text, last_text, walk_text, listed}
use Rattle.listing.specs.Cases.{Cases}

pub cases : Cases
unfolding symbol_of place_of nibble_of is_nibble encoded octets_of set_of carries poly crc_bit crc_bits crc_octet crc_from crc_of four_octets number crc_right drawn common kind_from agree agreeing single taken_or set_at nibble_run may_end end_or body_at with_set shape_behind checked first_of after_set first ends before onward walk_for walk drawn_all hex.is_hex hex.hex_value hex.octet_of hex.digit_of hex.hex_of decimal_of spaced octets_text ended broken symbol_then gap_then symbols_in recorded place_text mark_text frame_text no_text bad_octet_text frames_text short_text last_text walk_text listed
cases =
    record {
      empty = refl;
      resets = refl;
      tank = refl;
      no_frame = refl;
      near = refl;
      near_tank = refl;
      far = refl;
      doubtful = refl;
      three = refl;
      cut = refl;
      wrong_crc = refl;
      line_alone = refl;
      small_letter = refl;
      no_gap = refl;
      comma = refl;
      space_last = refl;
      two_lines = refl;
      half = refl;
    }
