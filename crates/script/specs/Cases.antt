-- Lines of 01's example, and lines that are near them.
-- Assumes nothing.
use Rattle.std.specs.Prelude.{◌≡◌, refl, true, false, [], ◌∷◌, Some, None}
use Rattle.std.proofs.Math.Option.{none, some}
use Rattle.text.specs.Ascii.{text}
use Rattle.text.specs.Hex.{is_hex, hex_value, octet_of, digit_of, hex_of}
use Rattle.text.specs.Put.{decimal_of, onto, value_of, spaced, octets_text}
use Rattle.machine.specs.Events.{write, read, pass, hard_reset, packet, sense, done, value, no}
use Rattle.machine.specs.Why.{refused, is_good_crc}
use Rattle.script.specs.Text.{octet_at, suits, fits, is_digit, all_digits, is_decimal, digits_in, is_octet, are_octets, octets_in}
use Rattle.script.specs.Parse.{count_of, number_part, rest_part, packet_of, millivolts_of, is_spaced, next_part, voltages_of, lettered_of, form_of, event_of, setup_of}
use Rattle.script.specs.Print.{reply_text, outcome_text, bad_line_text, reason_text, why_text}

pub in_form :
    (count_of (text "2") ≡ Some 2)
    × (setup_of (text "06 04") ≡ Some (write 73 0x06 0x04))
    × (event_of (text "w 09 46") ≡ Some (write 73 0x09 0x46))
    × (event_of (text "r 3E") ≡ Some (read 73 0x3E))
    × (event_of (text "t 1000") ≡ Some (pass 73 1000))
    × (event_of (text "h") ≡ Some (hard_reset 73))
    × (event_of (text "p 0 12 AB") ≡ Some (packet 73 0 (0x12 ∷ 0xAB ∷ [])))
    × (event_of (text "p 12") ≡ Some (packet 73 12 []))
    × (event_of (text "v 0 1230 65535") ≡ Some (sense 73 0 1230 65535))
    × (event_of (text "v 0000200 7 4000") ≡ Some (sense 73 200 7 4000))
unfolding is_hex hex_value octet_of octet_at suits fits is_digit all_digits is_decimal onto value_of digits_in is_octet are_octets octets_in count_of number_part rest_part packet_of millivolts_of is_spaced next_part voltages_of lettered_of form_of event_of setup_of
in_form = (refl, refl, refl, refl, refl, refl, refl, refl, refl, refl)

pub out_of_form :
    (count_of (text "12345678") ≡ None)
    × (count_of (text " 2") ≡ None)
    × (setup_of (text "06  04") ≡ None)
    × (event_of (text "w 9 46") ≡ None)
    × (event_of (text "r 3e") ≡ None)
    × (event_of (text "r 3E ") ≡ None)
    × (event_of (text "t ") ≡ None)
    × (event_of (text "t 12345678") ≡ None)
    × (event_of (text "p 0 1") ≡ None)
    × (event_of (text "p  0") ≡ None)
    × (event_of (text "v 65536 0 0") ≡ None)
    × (event_of (text "v 0 65536 0") ≡ None)
    × (event_of (text "v 0 0 65536") ≡ None)
    × (event_of (text "v 1 2") ≡ None)
    × (event_of (text "v 1 2 3 4") ≡ None)
    × (event_of (text "v 1  2 3") ≡ None)
    × (event_of (text "v 1 2 3 ") ≡ None)
    × (event_of (text "v 00000001 2 3") ≡ None)
    × (event_of (text "H") ≡ None)
    × (event_of (text "") ≡ None)
unfolding is_hex hex_value octet_of octet_at suits fits is_digit all_digits is_decimal onto value_of digits_in is_octet are_octets octets_in count_of number_part rest_part packet_of millivolts_of is_spaced next_part voltages_of lettered_of form_of event_of setup_of
out_of_form = (refl, refl, refl, refl, refl, refl, refl, refl, refl, refl, refl, refl, refl, refl, refl, refl, refl, refl, refl, refl)

pub printed :
    (outcome_text done true [] ≡ text "ok 1 -\n")
    × (outcome_text done false (0x07 ∷ 0x07 ∷ 0x07 ∷ 0x19 ∷ []) ≡ text "ok 0 07 07 07 19\n")
    × (outcome_text (value 0x08) true [] ≡ text "=08 1 -\n")
    × (outcome_text (no 8) true [] ≡ text "no8 1 -\n")
    × (bad_line_text 20000001 ≡ text "bad line 20000001\n")
    × (bad_line_text 4294967295 ≡ text "bad line 4294967295\n")
    × (why_text 6 (some (refused 11)) ≡ text "6 refused 11\n")
    × (why_text 20000001 (some is_good_crc) ≡ text "20000001 it is a GoodCRC\n")
    × (why_text 7 none ≡ text "7 leaves\n")
unfolding digit_of hex_of decimal_of reply_text spaced octets_text outcome_text bad_line_text reason_text why_text
printed = (refl, refl, refl, refl, refl, refl, refl, refl, refl)
