use Rattle.sessions.proofs.Framings.{frames_join, frames_of_joined, heard_frames, no_frame_left}
use Rattle.sessions.proofs.law.frames_of_bytes.Goals as goal

pub returns-clause-heard : goal.returns-clause-heard
returns-clause-heard c = heard_frames

pub returns-clause-none_left : goal.returns-clause-none_left
returns-clause-none_left c = no_frame_left

pub returns-clause-joined : goal.returns-clause-joined
returns-clause-joined c = frames_join

pub returns-clause-written : goal.returns-clause-written
returns-clause-written c = frames_of_joined
