-- What a machine for single programs holds.
use Rattle.std.specs.Prelude.{List, Option}
use Rattle.helpers.specs.Table.{Table}
use Rattle.verifier.specs.Checked.{Checked}
use Rattle.virtual_machine.specs.declared.registered.Registered.{Registered}
use Rattle.virtual_machine.specs.declared.vm.Vm.{Vm}

-- the program that is set, if one is
abbrev pub program_in : {X : Type 0} {g : _} → Vm X g → Option Checked
program_in vm = vm.program

-- how many arguments each helper takes that a program may call
abbrev pub helpers_in : {X : Type 0} {g : _} → Vm X g → Table
helpers_in vm = vm.helpers

-- the functions of those that the caller registered
abbrev pub functions_in : {X : Type 0} {g : _} → Vm X g → List (Option (Registered X g))
functions_in vm = vm.functions.places.items
