-- Where `computed` is unfolded, closed histories compute: it opens every definition on their way.
-- Assumes nothing.
use Rattle.line.specs.Symbol.{symbol_of, place_of, nibble_of, is_nibble, encoded, octets_of}
use Rattle.line.specs.Kind.{set_of, carries, common, kind_from}
use Rattle.line.specs.Crc.{poly, crc_bit, crc_bits, crc_octet, crc_from, crc_of, four_octets, with_crc, number, crc_right}
use Rattle.line.specs.Frame.{drawn, sealed, symbols_of, joined}
use Rattle.line.specs.Refusal.{first_no}
use Rattle.line.specs.Read.{agree, agreeing, single, taken_or, set_at, nibble_run, may_end, end_or, body_at, with_set, shape_behind, checked, first_of, after_set, first}
use Rattle.line.specs.Reader.{says_of}
use Rattle.machine.specs.Registers.{cell, stored, is_stored, read_only, exists, has}
use Rattle.machine.specs.Pins.{one_pin, bc_lvl_of, comp_of, readings}
use Rattle.machine.specs.Status.{status1a_of, status0_of, status1_of, changes, cleared_at}
use Rattle.machine.specs.Queue.{set_symbol, announced, is_token, to_come, inside, spelt_by, spelt}
use Rattle.machine.specs.Headers.{header, two_octets, is_control}
use Rattle.machine.specs.Requests.{driver_on, flight_in, retries_of, latched, start, send_hard_reset, hard_reset_heard, message_fails, soft_fails, fails, expires, elapses, passes}
use Rattle.machine.specs.Packets.{kind_on, awaited_by, replies_to, keeps, stores, accepts, hears}
use Rattle.machine.specs.Refusals.{tx_start, port_start, starts, sends_reset, to_be_stored, queue_at, no12, no1, no2, no6, no3, no5, no4, no7, no8, no11, no9, no10, refusal}
use Rattle.machine.specs.Step.{restored, pd_reset, queues, control0_written, control1_written, control3_written, reset_written, port_written, commands, writes, sw_reset, written, senses, read_value, after_read, accepted, reply_to, result_of, step, after, replies, frames}

unfoldable pub computed : Unit {0}
unfolding symbol_of place_of nibble_of is_nibble encoded octets_of set_of carries poly crc_bit crc_bits crc_octet crc_from crc_of
    four_octets with_crc drawn sealed symbols_of joined first_no common kind_from agree agreeing single taken_or set_at nibble_run may_end end_or body_at
    with_set shape_behind number crc_right checked first_of after_set first says_of cell stored is_stored read_only exists has status1a_of
    status0_of status1_of one_pin bc_lvl_of comp_of readings changes cleared_at set_symbol announced is_token to_come inside spelt_by spelt header two_octets is_control driver_on
    flight_in retries_of latched start send_hard_reset hard_reset_heard message_fails soft_fails fails expires elapses passes kind_on
    awaited_by replies_to keeps stores accepts hears tx_start port_start starts sends_reset to_be_stored queue_at no12 no1 no2 no6 no3 no5
    no4 no7 no8 no11 no9 no10 refusal restored pd_reset queues control0_written control1_written control3_written reset_written
    port_written commands writes sw_reset written senses read_value after_read accepted reply_to result_of step after replies frames
computed = tt
