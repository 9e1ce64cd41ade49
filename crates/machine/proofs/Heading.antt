-- Headers that the device builds, by their fields as they are heard.
-- Assumes nothing.
use mathlib.Core.Path.{◌≡◌}
use mathlib.Core.Bool.{Bool, true, false, cond}
use Prim.Native.Nat.{ℕ, ◌+◌, ◌*◌, ◌/◌, ◌%◌, ◌<◌}
use native.Mathlib.Nat.{mod-lt}
use native.Mathlib.Omega.{arith}
use lib.Dec.{eqb, lit<}
use Rattle.machine.specs.Headers.{role, header, two_octets, control, heard_header, type_of, message_id, objects}

role_bit : (b : Bool) (bit : ℕ) → bit < 2 → cond b bit 0 < 2
role_bit true bit h = h
role_bit false bit h = omega arith

module _ (type k sw id : ℕ) (small : type < 16) (few : id < 8) where
  pub record Fields : Type 0 where
    pub data_role : role k (sw / 16 % 2) < 2
    pub revision : sw / 32 % 4 < 4
    pub power_role : role k (sw / 128 % 2) < 2
    pub says :
        heard_header (control type k sw id).octets
        ≡ type + (32 * role k (sw / 16 % 2) + (64 * (sw / 32 % 4) + (256 * role k (sw / 128 % 2) + 512 * id)))

  pub fields : Fields
  unfolding header two_octets
  fields =
      let d = role_bit (eqb k 0) (sw / 16 % 2) (mod-lt _ (lit< tt)) in
      let r : sw / 32 % 4 < 4 = mod-lt _ (lit< tt) in
      let p = role_bit (eqb k 0) (sw / 128 % 2) (mod-lt _ (lit< tt)) in
      record { data_role = d; revision = r; power_role = p; says = omega arith }

  pub control_type : type_of (control type k sw id).octets ≡ type
  control_type = omega (arith, fields.data_role, fields.revision, fields.power_role, fields.says)

  pub control_objects : objects (control type k sw id).octets ≡ 0
  control_objects = omega (arith, fields.data_role, fields.revision, fields.power_role, fields.says)

  pub control_id : message_id (control type k sw id).octets ≡ id
  control_id = omega (arith, fields.data_role, fields.revision, fields.power_role, fields.says)
