-- What an entry does to a rebuild, as counters keep it.
use Rattle.std.specs.Prelude.{Bool, true, false, List, Option, None, Some}
use Rattle.cf_types.specs.declared.events.Stage.TheVariants.{Stopping}
use Rattle.cf_types.specs.declared.numbers.ConnId.{ConnId}
use Rattle.engine_api.specs.RebuildCore.declared.rebuild.Rebuild.{Rebuild}
use Rattle.engine_api.specs.RebuildCore.Stages.{new_rebuild, rebuild_in, without_owing, rebuild_without, rebuild_onward, rebuild_emptied, with_place}
use Rattle.shell_laws.specs.Tellings.{Telling, is_awaited}
use Rattle.shell_laws.specs.Tellings.Telling.{Starts, Places, Copies, Completes, Responds, Stops, Departs, Forces, Deallocates, Fails, Nothing}

-- a connector gave what the stage waits for, if it does
abbrev pub rebuild_given : Bool → ConnId → Rebuild → Option Rebuild
rebuild_given true by rebuild = rebuild_onward (without_owing by rebuild)
rebuild_given false by rebuild = Some rebuild

-- what is told of a rebuild under way
abbrev pub rebuild_by : ConnId → Telling → Rebuild → Option Rebuild
rebuild_by by (Starts number caps) rebuild = Some rebuild
rebuild_by by (Places cf) rebuild =
    rebuild_given (is_awaited rebuild.stage rebuild.number (Places cf)) by (with_place cf rebuild)
rebuild_by by (Copies moved) rebuild = Some rebuild
rebuild_by by Completes rebuild = rebuild_given (is_awaited rebuild.stage rebuild.number Completes) by rebuild
rebuild_by by (Responds event) rebuild =
    rebuild_given (is_awaited rebuild.stage rebuild.number (Responds event)) by rebuild
rebuild_by by Stops rebuild = Some (rebuild_in Stopping rebuild)
rebuild_by by Departs rebuild = rebuild_onward (rebuild_without by rebuild)
rebuild_by by Forces rebuild = Some (rebuild_emptied rebuild.stage rebuild)
rebuild_by by Deallocates rebuild = Some rebuild
rebuild_by by Fails rebuild = None
rebuild_by by Nothing rebuild = Some rebuild

abbrev pub rebuild_if : ConnId → Telling → Option Rebuild → Option Rebuild
rebuild_if by telling None = None
rebuild_if by telling (Some rebuild) = rebuild_by by telling rebuild

-- a start begins one, whose members are those active then
abbrev pub rebuild_next : List ConnId → ConnId → Telling → Option Rebuild → Option Rebuild
rebuild_next actives by (Starts number caps) rebuild = Some (new_rebuild number actives caps)
rebuild_next actives by telling rebuild = rebuild_if by telling rebuild
