pub mod LastOnes
