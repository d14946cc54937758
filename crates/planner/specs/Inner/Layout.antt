-- How a call lays the work buffer out: slots of one size from its start on, and the memory behind them, up to a step's
-- scratch. Assumes nothing.
use Rattle.std.specs.Prelude.{ℕ, ◌+◌, ◌*◌, ◌-◌, ◌/◌, ltb}
use Rattle.pack.specs.Reading.{pick}
use Rattle.pack.specs.declared.contents.Contents.{Contents}
use Rattle.transition.specs.Duties.Stage.{slot_room, scratch_at}
use Rattle.planner.specs.declared.limits.Context.{Context}
use Rattle.planner.specs.declared.limits.Foresight.{Foresight}

-- how many entries the memory has for what is known of lists: few for packs of few actions, of which little is known,
-- and many where there is room
abbrev pub entries : (actions room : ℕ) → ℕ
entries actions room = pick (ltb actions 12) 256 (pick (ltb room 24000) 512 1024)

-- the room behind so many slots
abbrev pub room_behind : Contents → (slots : ℕ) → ℕ
room_behind c slots = scratch_at - slots * slot_room (c.domains.fluents + c.characters)

-- so many slots for tables of a pack's width; of what is left, behind the memory's entries, 255 blocks for tables
abbrev pub laid_out : Contents → Foresight → (slots : ℕ) → Context
laid_out c k slots =
    record {
      actions = c.actions;
      triggers = c.triggers;
      fluents = c.domains.fluents;
      characters = c.characters;
      foresight = k;
      stride = slot_room (c.domains.fluents + c.characters);
      memory = slots * slot_room (c.domains.fluents + c.characters);
      lists = entries c.actions (room_behind c slots);
      tables =
          slots * slot_room (c.domains.fluents + c.characters) + 436 + 9 * entries c.actions (room_behind c slots);
      block = (room_behind c slots - 436 - 9 * entries c.actions (room_behind c slots)) / 255;
    }
