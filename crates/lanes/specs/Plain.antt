-- A ticket as plain data.
use Rattle.credit_book.specs.declared.task.Ticket.{Ticket}
use Rattle.lanes.specs.declared.moves.TicketData.{TicketData}

abbrev pub ticket_data : Ticket → TicketData
ticket_data t = record {
  job = t.job;
  number = t.number;
  program = t.program;
  held = t.held;
  arg = t.arg;
  base = t.part.base;
  bytes = t.part.bytes;
}
