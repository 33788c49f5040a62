use Rattle.sessions.proofs.Joining.{heard_stream, frame_cut}
use Rattle.sessions.proofs.law.frames_of_all_pieces.Goals as goal

pub returns-clause-heard : goal.returns-clause-heard
returns-clause-heard c = heard_stream

pub returns-clause-cut : goal.returns-clause-cut
returns-clause-cut c = frame_cut
