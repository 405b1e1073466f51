-- Commands: what a function is to do, by the code of each (Covers 1).
use Rattle.std.specs.Prelude.{ℕ}
use Rattle.model.specs.declared.command.CalculationsCommand.{CalculationsCommand}
use Rattle.model.specs.declared.command.ControlCommand.{ControlCommand}
use Rattle.model.specs.declared.command.InternalCommand.{InternalCommand}
use Rattle.model.specs.declared.command.ReturnCommand.{ReturnCommand}

-- function 03
abbrev pub calculations_code : CalculationsCommand → ℕ
calculations_code CalculationsCommand.Asked = 0x00
calculations_code CalculationsCommand.All = 0x80

-- function 10h
abbrev pub control_code : ControlCommand → ℕ
control_code ControlCommand.Open = 0x10
control_code ControlCommand.Close = 0x11
control_code ControlCommand.Operate = 0x20
control_code ControlCommand.Reset = 0x21

-- function 20h
abbrev pub internal_code : InternalCommand → ℕ
internal_code InternalCommand.Restart = 0x00
internal_code InternalCommand.ResetCount = 0x11
internal_code InternalCommand.Write = 0x30
internal_code InternalCommand.Execute = 0x31
internal_code InternalCommand.SetTime = 0x38

-- function 28h
abbrev pub return_code : ReturnCommand → ℕ
return_code ReturnCommand.Read = 0x30
return_code ReturnCommand.ReadTime = 0x31
